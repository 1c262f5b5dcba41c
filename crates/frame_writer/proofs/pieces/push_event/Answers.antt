use Rattle.std.proofs.Common.{◌≡◌, ◌≤◌, [], ◌∷◌, ◌++◌, length, codes, decimal, ap, ◌∙◌, arith}
use Rattle.decimal.proofs.Plain.{length_most}
use Rattle.draft.proofs.Chains.{Pushed, pushed_length, pushed_text, whole}
use Rattle.draft.proofs.Chains.Pushed.{none, then}
use Rattle.draft.specs.Growing.{text_in}
use Rattle.frame_writer.proofs.Laid.{event_laid, event_pieces, id_length}
use Rattle.frame_writer.proofs.Texts.{reason_short, type_short}
use Rattle.event.specs.Names.{reason_text, type_text}
use Rattle.frame_writer.proofs.pieces.push_event.Goals as goal
use Rattle.ids.specs.Ids.{id_text}

pub push_id-requires : goal.push_id-requires
push_id-requires c =
    let kind : c.as_bytes.result.now ≡ type_text c.args.event.kind = c.as_bytes.ensures.value ∙ c.name.ensures in
    let reason : c.as_bytes-2.result.now ≡ reason_text c.args.event.reason = c.as_bytes-2.ensures.value ∙ c.name-2.ensures in
    let kind-short : length c.as_bytes.result.now ≤ 7 = omega (arith, ap length kind, type_short c.args.event.kind) in
    let reason-short : length c.as_bytes-2.result.now ≤ 18 = omega (arith, ap length reason, reason_short c.args.event.reason) in
    let before = text_in c.args.draft.now in
    let number = decimal c.from.result in
    let short : length number ≤ 20 = length_most c.from.result (omega arith) in
    let chain : Pushed before (codes "\"eventType\":\"" ∷ c.as_bytes.result.now ∷ codes "\",\"timestamp\":\"" ∷ c.args.stamp.now ∷ codes "\",\"triggerReason\":\"" ∷ c.as_bytes-2.result.now ∷ codes "\",\"seqNo\":" ∷ number ∷ codes ",\"offline\":" ∷ c.flag_word.result.now ∷ codes ",\"transactionInfo\":{\"transactionId\":\"" ∷ []) (text_in c.push_text-10.new.self) =
    then c.push_text.ensures.taken (then c.push_text-2.ensures.taken (then c.push_text-3.ensures.taken (then c.push_text-4.ensures.taken (then c.push_text-5.ensures.taken (then c.push_text-6.ensures.taken
    (then c.push_text-7.ensures.taken (then c.push_plain.ensures.taken (then c.push_text-8.ensures.taken (then c.push_text-9.ensures.taken (then c.push_text-10.ensures.taken none)))))))))) in
    omega (arith, pushed_length chain (omega arith))

pub returns : goal.returns
returns c =
    let kind : c.as_bytes.result.now ≡ type_text c.args.event.kind = c.as_bytes.ensures.value ∙ c.name.ensures in
    let reason : c.as_bytes-2.result.now ≡ reason_text c.args.event.reason = c.as_bytes-2.ensures.value ∙ c.name-2.ensures in
    let kind-short : length c.as_bytes.result.now ≤ 7 = omega (arith, ap length kind, type_short c.args.event.kind) in
    let reason-short : length c.as_bytes-2.result.now ≤ 18 = omega (arith, ap length reason, reason_short c.args.event.reason) in
    let before = text_in c.args.draft.now in
    let event = c.args.event in
    let stamp = c.args.stamp.now in
    let number = decimal c.from.result in
    let id = id_text event.station event.session in
    let short : length number ≤ 20 = length_most c.from.result (omega arith) in
    let long : length id ≡ 14 = id_length event.station event.session in
    let chain : Pushed before (event_pieces c.as_bytes.result.now stamp c.as_bytes-2.result.now number c.flag_word.result.now id) (text_in c.push_text-11.new.self) =
    then c.push_text.ensures.taken (then c.push_text-2.ensures.taken (then c.push_text-3.ensures.taken (then c.push_text-4.ensures.taken (then c.push_text-5.ensures.taken (then c.push_text-6.ensures.taken
    (then c.push_text-7.ensures.taken (then c.push_plain.ensures.taken (then c.push_text-8.ensures.taken (then c.push_text-9.ensures.taken (then c.push_text-10.ensures.taken
    (then (λ _. c.push_id.ensures) (then c.push_text-11.ensures.taken none)))))))))))) in
    record {
      text = pushed_text chain (omega arith)
          ∙ (λ i. before ++ whole (event_pieces (kind i) stamp (reason i) (decimal (c.from.ensures i)) (c.flag_word.ensures.text i) id))
          ∙ ap (λ l. before ++ l) (event_laid stamp event);
      long = omega (arith, pushed_length chain (omega arith));
    }
