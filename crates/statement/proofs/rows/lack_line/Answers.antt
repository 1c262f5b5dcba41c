use Rattle.std.proofs.Common.{◌≤◌, [], ◌∷◌, ◌++◌, length, decimal, ap, ◌∙◌, arith, length-append, length-take}
use Rattle.decimal.proofs.Plain.{length_most}
use Rattle.draft.proofs.Chains.{Pushed, pushed_text}
use Rattle.draft.proofs.Chains.Pushed.{none, then}
use Rattle.draft.specs.Growing.{text_in}
use Rattle.statement.proofs.Told.{lack_laid, lack_pieces}
use Rattle.statement.specs.Lines.{stretches_text}
use Rattle.statement.proofs.rows.lack_line.Goals as goal

pub returns : goal.returns
returns c =
    let front = text_in c.begin-line.result in
    let count = decimal c.from.result in
    let stretches = stretches_text c.as_slice.result.now in
    let chain : Pushed front (lack_pieces count c.end_word.result.now stretches) (text_in c.push-3.new.self) =
    then (λ _. c.push_field.ensures.text) (then c.push.ensures.taken (then c.push_text.ensures.taken (then c.push-2.ensures.taken (then (λ _. c.push_stretches.ensures.text) (then c.push-3.ensures.taken none))))) in
    let short : length count ≤ 20 = length_most c.from.result (omega arith) in
    let few : length c.as_slice.result.now ≤ 16 = omega (arith, ap length c.as_slice.ensures, length-take c.args.lack.missing.count c.args.lack.missing.runs) in
    pushed_text chain (omega (arith, ap length c.push_stretches.ensures.text, length-append (text_in c.push-2.new.self) stretches, c.push_stretches.ensures.long))
    ∙ lack_laid front count c.end_word.result.now stretches
    ∙ (λ i. c.begin-line.ensures.text i ++ (32 ∷ decimal (c.from.ensures i)) ++ (32 ∷ c.end_word.ensures.text i) ++ (32 ∷ stretches_text (c.as_slice.ensures i)) ++ 10 ∷ [])
