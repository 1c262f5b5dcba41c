use Rattle.std.proofs.Common.{◌≡◌, [], ◌∷◌, ◌++◌, length, ap, ◌∙◌, append-nil, arith}
use Rattle.decimal.proofs.Widths.{length_fixed}
use Rattle.decimal.specs.Decimal.{fixed}
use Rattle.draft.proofs.Chains.{Pushed, pushed_length, pushed_text}
use Rattle.draft.proofs.Chains.Pushed.{none, then}
use Rattle.draft.specs.Growing.{text_in}
use Rattle.statement.proofs.line.begin.Goals as goal

pub returns : goal.returns
returns c =
    let letter = c.args.letter in
    let chain : Pushed (text_in c.new-line.result) ((letter ∷ []) ∷ (32 ∷ []) ∷ fixed 5 c.from.result ∷ (45 ∷ []) ∷ fixed 8 c.from-2.result ∷ []) (text_in c.push_fixed-2.new.self) =
    then c.push.ensures.taken (then c.push-2.ensures.taken (then c.push_fixed.ensures.taken (then c.push-3.ensures.taken (then c.push_fixed-2.ensures.taken none)))) in
    let five = length_fixed 5 c.from.result in
    let eight = length_fixed 8 c.from-2.result in
    let empty : length (text_in c.new-line.result) ≡ 0 = ap length c.new-line.ensures in
    record {
      text = pushed_text chain (omega arith)
          ∙ (λ i. c.new-line.ensures i ++ (letter ∷ (32 ∷ (fixed 5 (c.from.ensures i) ++ (45 ∷ append-nil (fixed 8 (c.from-2.ensures i)) i)))));
      long = omega (arith, pushed_length chain (omega arith));
    }
