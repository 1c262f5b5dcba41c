use Rattle.std.proofs.Common.{length, take, sym, ap, ◌∙◌, arith}
use Rattle.frame_reader.proofs.Forms.{front_long, front_text, same_string}
use Rattle.frame_reader.proofs.values.is_front.Goals as goal
use Rattle.json_text.specs.Grammar.Json.{jstring}
use Rattle.std.proofs.lemmas.Slice.Eq.{slice_eq-Decides}
use Rattle.std.proofs.lemmas.Bool.Decides.{Decides-eqb}

pub returns-then-id-lt-TRANSACTION_ID_LENGTH : goal.returns-then-id-lt-TRANSACTION_ID_LENGTH
returns-then-id-lt-TRANSACTION_ID_LENGTH c = λ tree station session number attempt v e.
    absurd (omega (arith, ap length e, front_long station session number attempt, c.if-id-lt-TRANSACTION_ID_LENGTH.true))

pub returns-in-Some : goal.returns-in-Some
returns-in-Some c = λ tree station session number attempt v e.
    let is = c.in-Some.ensures tree v in
    let front = ap (take 14) e ∙ front_text station session number attempt in
    let d = slice_eq-Decides Decides-eqb _ _ _ c.eq.ensures in
    ((λ h. is ∙ ap jstring (d.0 h ∙ front)), (λ h. d.1 (same_string (sym is ∙ h) ∙ sym front)))
