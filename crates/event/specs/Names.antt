-- The names of event types and trigger reasons, as OCPP writes them. Assumes nothing.
use Rattle.std.specs.Prelude.{ℕ, List, codes}
use Rattle.event.specs.declared.events.EventType.{EventType}
use Rattle.event.specs.declared.events.EventType.TheVariants.{Started, Updated, Ended}
use Rattle.event.specs.declared.events.TriggerReason.{TriggerReason}
use Rattle.event.specs.declared.events.TriggerReason.TheVariants.{CablePluggedIn, MeterValuePeriodic, EVDeparted}

abbrev pub type_text : EventType → List ℕ
type_text Started = codes "Started"
type_text Updated = codes "Updated"
type_text Ended = codes "Ended"

abbrev pub reason_text : TriggerReason → List ℕ
reason_text CablePluggedIn = codes "CablePluggedIn"
reason_text MeterValuePeriodic = codes "MeterValuePeriodic"
reason_text EVDeparted = codes "EVDeparted"
