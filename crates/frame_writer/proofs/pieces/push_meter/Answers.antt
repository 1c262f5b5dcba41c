use Rattle.std.proofs.Common.{◌++◌, decimal, ap, ◌∙◌, arith}
use Rattle.decimal.proofs.Plain.{length_most}
use Rattle.draft.proofs.Chains.{Pushed, pushed_length, pushed_text}
use Rattle.draft.proofs.Chains.Pushed.{none, then}
use Rattle.draft.specs.Growing.{text_in}
use Rattle.frame_writer.proofs.Laid.{meter_laid, meter_pieces}
use Rattle.frame_writer.proofs.pieces.push_meter.Goals as goal

pub returns : goal.returns
returns c =
    let before = text_in c.args.draft.now in
    let stamp = c.args.stamp.now in
    let wh = c.args.wh in
    let chain : Pushed before (meter_pieces stamp (decimal wh)) (text_in c.push_text-4.new.self) =
    then c.push_text.ensures.taken (then c.push_text-2.ensures.taken (then c.push_text-3.ensures.taken (then c.push_plain.ensures.taken (then c.push_text-4.ensures.taken none)))) in
    record {
      text = pushed_text chain (omega (arith, length_most wh (omega arith))) ∙ ap (λ l. before ++ l) (meter_laid stamp wh);
      long = omega (arith, length_most wh (omega arith), pushed_length chain (omega (arith, length_most wh (omega arith))));
    }
