use Rattle.std.proofs.Common.{refl, arith}
use Rattle.event.specs.declared.events.EventType.TheVariants.{Started, Updated, Ended}
use Rattle.event.proofs.names.EventTypeNamed.all.Goals as goal

pub returns : goal.returns
returns c = elim [ Started ↦ (0, omega arith, refl) | Updated ↦ (1, omega arith, refl) | Ended ↦ (2, omega arith, refl) ]
