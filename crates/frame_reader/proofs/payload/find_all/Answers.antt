use Rattle.std.proofs.Common.{codes, refl}
use Rattle.frame_reader.specs.Fields.{IdFinds, MeterFinds}
use Rattle.frame.specs.Slots.{Bytes}
use Rattle.frame.proofs.Looks.{found_all}
use Rattle.frame.specs.declared.slot.Slot.TheVariants.{Missing}
use Rattle.frame_reader.specs.declared.payload.Payload.{Payload}
use Rattle.frame_reader.proofs.payload.find_all.Goals as goal

-- nothing was found yet
missing : Payload
missing = record {
  event_type = Missing;
  timestamp = Missing;
  trigger_reason = Missing;
  seq_no = Missing;
  offline = Missing;
  transaction_info = Missing;
  meter_value = Missing;
}

pub returns : goal.returns
returns c = λ ms end o.
    let walk = c.collect-behind.ensures.through missing ms end o (
    record {
      event_type = (refl, refl);
      timestamp = (refl, refl);
      trigger_reason = (refl, refl);
      seq_no = (refl, refl);
      offline = (refl, refl);
      transaction_info = (refl, refl);
      meter_value = (refl, refl);
    }
    ) in (
      record {
        event_type = found_all Bytes (codes "eventType") ms _ walk.0.event_type;
        timestamp = found_all Bytes (codes "timestamp") ms _ walk.0.timestamp;
        trigger_reason = found_all Bytes (codes "triggerReason") ms _ walk.0.trigger_reason;
        seq_no = found_all Bytes (codes "seqNo") ms _ walk.0.seq_no;
        offline = found_all Bytes (codes "offline") ms _ walk.0.offline;
        transaction_info = found_all IdFinds (codes "transactionInfo") ms _ walk.0.transaction_info;
        meter_value = found_all MeterFinds (codes "meterValue") ms _ walk.0.meter_value;
      },
      walk.1,
    )
