-- What a walk through the members of a payload finds. Assumes nothing.
use Rattle.std.specs.Prelude.{codes}
use Rattle.frame_reader.specs.Fields.{IdFinds, MeterFinds}
use Rattle.frame.specs.Slots.{Bytes, Found, SoFar}
use Rattle.frame_reader.specs.declared.payload.Payload.{Payload}
use Rattle.json_text.specs.Grammar.{Membs}

-- under each name that is read
pub record FoundAll (found : Payload) (ms : Membs) : Type 0 where
  pub event_type : Found Bytes found.event_type (codes "eventType") ms
  pub timestamp : Found Bytes found.timestamp (codes "timestamp") ms
  pub trigger_reason : Found Bytes found.trigger_reason (codes "triggerReason") ms
  pub seq_no : Found Bytes found.seq_no (codes "seqNo") ms
  pub offline : Found Bytes found.offline (codes "offline") ms
  pub transaction_info : Found IdFinds found.transaction_info (codes "transactionInfo") ms
  pub meter_value : Found MeterFinds found.meter_value (codes "meterValue") ms

-- the same of the members that have been passed, where these are left
pub record SoFarAll (found : Payload) (ms left : Membs) : Type 0 where
  pub event_type : SoFar Bytes found.event_type (codes "eventType") ms left
  pub timestamp : SoFar Bytes found.timestamp (codes "timestamp") ms left
  pub trigger_reason : SoFar Bytes found.trigger_reason (codes "triggerReason") ms left
  pub seq_no : SoFar Bytes found.seq_no (codes "seqNo") ms left
  pub offline : SoFar Bytes found.offline (codes "offline") ms left
  pub transaction_info : SoFar IdFinds found.transaction_info (codes "transactionInfo") ms left
  pub meter_value : SoFar MeterFinds found.meter_value (codes "meterValue") ms left
