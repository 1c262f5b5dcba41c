use Rattle.std.proofs.Common.{◌≤◌, [], ◌∷◌, ◌++◌, length, decimal, ap, ◌∙◌, append-nil, arith}
use Rattle.decimal.proofs.Plain.{length_most}
use Rattle.draft.proofs.Chains.{Pushed, pushed_length, pushed_text}
use Rattle.draft.proofs.Chains.Pushed.{none, then}
use Rattle.draft.specs.Growing.{text_in}
use Rattle.statement.proofs.line.push_field.Goals as goal

pub returns : goal.returns
returns c =
    let before = text_in c.args.line.now in
    let digits = decimal c.args.number in
    let short : length digits ≤ 20 = length_most c.args.number (omega arith) in
    let chain : Pushed before ((32 ∷ []) ∷ digits ∷ []) (text_in c.push_plain.new.self) = then c.push.ensures.taken (then c.push_plain.ensures.taken none) in
    record {
      text = pushed_text chain (omega arith) ∙ ap (λ l. before ++ (32 ∷ l)) (append-nil digits);
      long = omega (arith, pushed_length chain (omega arith));
    }
