use Rattle.std.proofs.Common.{◌∷◌, ◌++◌, ◌∙◌, append-nil, arith}
use Rattle.decimal.proofs.Widths.{length_fixed}
use Rattle.decimal.specs.Decimal.{fixed}
use Rattle.draft.proofs.Chains.{pushed_text}
use Rattle.draft.proofs.Chains.Pushed.{none, then}
use Rattle.draft.specs.Growing.{text_in}
use Rattle.frame_writer.proofs.pieces.push_id.Goals as goal

pub returns : goal.returns
returns c =
    let before = text_in c.args.draft.now in
    pushed_text (then c.push_fixed.ensures.taken (then c.push.ensures.taken (then c.push_fixed-2.ensures.taken none)))
    (omega (arith, length_fixed 5 c.from.result, length_fixed 8 c.from-2.result))
    ∙ (λ i. before ++ (fixed 5 (c.from.ensures i) ++ (45 ∷ append-nil (fixed 8 (c.from-2.ensures i)) i)))
