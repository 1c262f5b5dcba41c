use Rattle.std.proofs.Common.{IfSome, codes, sym, subst}
use Rattle.frame_reader.specs.Fields.{IdFinds}
use Rattle.frame_reader.specs.Frame.{Must}
use Rattle.frame_reader.specs.Members.{chain}
use Rattle.frame.specs.Members.{members_of}
use Rattle.frame.specs.Slots.{Bytes}
use Rattle.frame.proofs.Looks.{is_optional, is_required}
use Rattle.frame_reader.proofs.Onlys.{to_under, to_under_if}
use Rattle.frame_reader.proofs.fields.Fields.find.Goals as goal

pub returns : goal.returns
returns c = λ ms f.
    let event_type = is_required Bytes (codes "eventType") ms _ _ c.in_ok-required.ensures f.event_type in
    let timestamp = is_required Bytes (codes "timestamp") ms _ _ c.in_ok-required-2.ensures f.timestamp in
    let trigger_reason = is_required Bytes (codes "triggerReason") ms _ _ c.in_ok-required-3.ensures f.trigger_reason in
    let seq_no = is_required Bytes (codes "seqNo") ms _ _ c.in_ok-required-4.ensures f.seq_no in
    let offline = is_optional Bytes (codes "offline") ms _ _ c.in_ok-optional.ensures f.offline in
    let info = is_required IdFinds (codes "transactionInfo") ms _ _ c.in_ok-required-5.ensures f.transaction_info in
    let id = subst (IdFinds info.1.0) c.in_ok-branch.was info.1.2 in
    let meter = c.in_ok-find_register.ensures ms f.meter_value in (
      record {
        here = record {
          event_type = event_type.0;
          timestamp = timestamp.0;
          trigger_reason = trigger_reason.0;
          seq_no = seq_no.0;
          offline = offline.0;
          transaction_info = info.0;
          meter_value = meter.0.0;
        };
        info = subst (λ o. IfSome (chain o members_of) (Must (codes "transactionId"))) (sym info.1.1) id.0;
        meter = meter.0.1;
      },
      record {
        event_type = to_under (codes "eventType") ms c.in_ok-required.field-0 event_type.1;
        timestamp = to_under (codes "timestamp") ms c.in_ok-required-2.field-0 timestamp.1;
        trigger_reason = to_under (codes "triggerReason") ms c.in_ok-required-3.field-0 trigger_reason.1;
        seq_no = to_under (codes "seqNo") ms c.in_ok-required-4.field-0 seq_no.1;
        offline = to_under_if (codes "offline") ms _ offline.1;
        info = info.1.0;
        info_is = info.1.1;
        transaction_id = id.1;
        meter = meter.1;
      },
    )
