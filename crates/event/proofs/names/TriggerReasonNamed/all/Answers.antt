use Rattle.std.proofs.Common.{refl, arith}
use Rattle.event.specs.declared.events.TriggerReason.TheVariants.{CablePluggedIn, MeterValuePeriodic, EVDeparted}
use Rattle.event.proofs.names.TriggerReasonNamed.all.Goals as goal

pub returns : goal.returns
returns c = elim [ CablePluggedIn ↦ (0, omega arith, refl) | MeterValuePeriodic ↦ (1, omega arith, refl) | EVDeparted ↦ (2, omega arith, refl) ]
