use Rattle.std.proofs.Common.{codes, sym, refl, ap, ◌∙◌, subst}
use Rattle.frame_reader.specs.Fields.{IdFinds, MeterFinds}
use Rattle.frame.specs.Slots.{Bytes, SoFar}
use Rattle.frame.specs.Walks.{quoted}
use Rattle.frame.proofs.Looks.{hit, miss, pass, unquoted}
use Rattle.frame_reader.proofs.payload.PayloadCollects.take.Goals as goal
use Rattle.std.proofs.lemmas.Slice.Eq.{slice_eq-Decides}
use Rattle.std.proofs.lemmas.Bool.{both_ways}
use Rattle.std.proofs.lemmas.Bool.Decides.{Decides-eqb}

pub returns-then-eq : goal.returns-then-eq
returns-then-eq c = record {
  through = λ end start ms left t far.
      let named = unquoted t.called (codes "transactionInfo") (sym t.name_is ∙ (slice_eq-Decides Decides-eqb _ _ _ c.eq.ensures).0 c.if-eq.true) in
      let found = c.find_id.ensures.through t.tree t.behind t.value in (
        record {
          event_type = pass Bytes _ (codes "transactionInfo") (codes "eventType") ms left t.called t.tree t.others t.is named refl far.event_type;
          timestamp = pass Bytes _ (codes "transactionInfo") (codes "timestamp") ms left t.called t.tree t.others t.is named refl far.timestamp;
          trigger_reason = pass Bytes _ (codes "transactionInfo") (codes "triggerReason") ms left t.called t.tree t.others t.is named refl far.trigger_reason;
          seq_no = pass Bytes _ (codes "transactionInfo") (codes "seqNo") ms left t.called t.tree t.others t.is named refl far.seq_no;
          offline = pass Bytes _ (codes "transactionInfo") (codes "offline") ms left t.called t.tree t.others t.is named refl far.offline;
          meter_value = pass MeterFinds _ (codes "transactionInfo") (codes "meterValue") ms left t.called t.tree t.others t.is named refl far.meter_value;
          transaction_info = subst (λ f. SoFar IdFinds f (codes "transactionInfo") ms t.others) (sym c.add-self.ensures) (hit IdFinds _ _ (codes "transactionInfo") ms left t.called t.tree t.others t.is named found.0 far.transaction_info);
        },
        found.1,
      );
  bound = c.find_id.ensures.bound;
}

pub returns-then-eq-2 : goal.returns-then-eq-2
returns-then-eq-2 c = record {
  through = λ end start ms left t far.
      let named = unquoted t.called (codes "meterValue") (sym t.name_is ∙ (slice_eq-Decides Decides-eqb _ _ _ c.eq-2.ensures).0 c.if-eq-2.true) in
      let found = c.find_meter.ensures.through t.tree t.behind t.value in (
        record {
          event_type = pass Bytes _ (codes "meterValue") (codes "eventType") ms left t.called t.tree t.others t.is named refl far.event_type;
          timestamp = pass Bytes _ (codes "meterValue") (codes "timestamp") ms left t.called t.tree t.others t.is named refl far.timestamp;
          trigger_reason = pass Bytes _ (codes "meterValue") (codes "triggerReason") ms left t.called t.tree t.others t.is named refl far.trigger_reason;
          seq_no = pass Bytes _ (codes "meterValue") (codes "seqNo") ms left t.called t.tree t.others t.is named refl far.seq_no;
          offline = pass Bytes _ (codes "meterValue") (codes "offline") ms left t.called t.tree t.others t.is named refl far.offline;
          transaction_info = pass IdFinds _ (codes "meterValue") (codes "transactionInfo") ms left t.called t.tree t.others t.is named refl far.transaction_info;
          meter_value = subst (λ f. SoFar MeterFinds f (codes "meterValue") ms t.others) (sym c.add-self-then-eq-2.ensures) (hit MeterFinds _ _ (codes "meterValue") ms left t.called t.tree t.others t.is named found.0 far.meter_value);
        },
        found.1,
      );
  bound = c.find_meter.ensures.bound;
}

pub returns : goal.returns
returns c = record {
  through = λ end start ms left t far.
      let v = c.cut.ensures.through t.tree t.behind t.value in (
        record {
          event_type = c.note-self.ensures (codes "eventType") _ end ms left refl t v.0 far.event_type;
          timestamp = c.note-self-2.ensures (codes "timestamp") _ end ms left refl t v.0 far.timestamp;
          trigger_reason = c.note-self-3.ensures (codes "triggerReason") _ end ms left refl t v.0 far.trigger_reason;
          seq_no = c.note-self-4.ensures (codes "seqNo") _ end ms left refl t v.0 far.seq_no;
          offline = c.note-self-5.ensures (codes "offline") _ end ms left refl t v.0 far.offline;
          transaction_info = miss IdFinds _ (codes "transactionInfo") ms left t.called t.tree t.others t.is (λ q. both_ways c.eq.result c.if-eq.false ((slice_eq-Decides Decides-eqb _ _ _ c.eq.ensures).1 (t.name_is ∙ ap quoted q))) far.transaction_info;
          meter_value = miss MeterFinds _ (codes "meterValue") ms left t.called t.tree t.others t.is (λ q. both_ways c.eq-2.result c.if-eq-2.false ((slice_eq-Decides Decides-eqb _ _ _ c.eq-2.ensures).1 (t.name_is ∙ ap quoted q))) far.meter_value;
        },
        v.1,
      );
  bound = c.cut.ensures.bound;
}
