use Rattle.std.proofs.Common.{[], ◌∷◌, ◌++◌, ◌∙◌, append-nil, arith}
use Rattle.decimal.proofs.Widths.{length_fixed}
use Rattle.decimal.specs.Decimal.{fixed}
use Rattle.draft.proofs.Chains.{Pushed, pushed_text}
use Rattle.draft.proofs.Chains.Pushed.{none, then}
use Rattle.draft.specs.Growing.{text_in}
use Rattle.frame_writer.proofs.Laid.{id_length}
use Rattle.frame_writer.proofs.pieces.push_message_id.Goals as goal
use Rattle.ids.specs.Ids.{id_text}

pub returns : goal.returns
returns c =
    let before = text_in c.args.draft.now in
    let event = c.args.transmission.event in
    let id = id_text event.station event.session in
    let chain : Pushed before (id ∷ (45 ∷ []) ∷ fixed 4 c.from.result ∷ (45 ∷ []) ∷ fixed 2 c.from-2.result ∷ []) (text_in c.push_fixed-2.new.self) =
    then (λ _. c.push_id.ensures) (then c.push.ensures.taken (then c.push_fixed.ensures.taken (then c.push-2.ensures.taken (then c.push_fixed-2.ensures.taken none)))) in
    pushed_text chain (omega (arith, id_length event.station event.session, length_fixed 4 c.from.result, length_fixed 2 c.from-2.result))
    ∙ (λ i. before ++ (id ++ (45 ∷ (fixed 4 (c.from.ensures i) ++ (45 ∷ append-nil (fixed 2 (c.from-2.ensures i)) i)))))
