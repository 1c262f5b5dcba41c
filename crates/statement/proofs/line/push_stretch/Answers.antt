use Rattle.std.proofs.Common.{◌≤◌, [], ◌∷◌, ◌++◌, length, decimal, ◌∙◌, append-nil, arith}
use Rattle.decimal.proofs.Plain.{length_most}
use Rattle.draft.proofs.Chains.{Pushed, pushed_length, pushed_text}
use Rattle.draft.proofs.Chains.Pushed.{none, then}
use Rattle.draft.specs.Growing.{text_in}
use Rattle.statement.proofs.line.push_stretch.Goals as goal

pub returns : goal.returns
returns c =
    let before = text_in c.args.line.now in
    let first = decimal c.from.result in
    let last = decimal c.from-2.result in
    let first_short : length first ≤ 20 = length_most c.from.result (omega arith) in
    let last_short : length last ≤ 20 = length_most c.from-2.result (omega arith) in
    let chain : Pushed before (first ∷ (45 ∷ []) ∷ last ∷ []) (text_in c.push_plain-2.new.self) =
    then c.push_plain.ensures.taken (then c.push.ensures.taken (then c.push_plain-2.ensures.taken none)) in
    record {
      text = pushed_text chain (omega arith) ∙ (λ i. before ++ (decimal (c.from.ensures i) ++ (45 ∷ append-nil (decimal (c.from-2.ensures i)) i)));
      long = omega (arith, pushed_length chain (omega arith));
    }
