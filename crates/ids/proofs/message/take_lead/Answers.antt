use Rattle.std.proofs.Common.{◌≡◌, ◌∷◌, length, get_or, sym, ap, ◌∙◌, subst, arith, ltb-true}
use Rattle.decimal.specs.Decimal.{FixedText}
use Rattle.ids.proofs.Leads.{placed}
use Rattle.ids.proofs.message.take_lead.Goals as goal
use Rattle.ids.proofs.message.take_lead.Goals.{in_default-via-then-behind-lt1, in_default-via-else-behind-lt1+in_default-1}

pub returns-in_err-digits : goal.returns-in_err-digits
returns-in_err-digits g c =
    rw c.from_residual.ensures (λ n rest l. omega (arith, (placed _ _ n rest c.requires l).long, c.in_err-digits.ensures.cases))

pub returns-in_default : goal.returns-in_default
returns-in_default g c = λ n rest l.
    let e : c.in_ok-digits.behind.now ≡ 45 ∷ rest = c.in_ok-digits.ensures.cases.1 ∙ (placed _ _ n rest c.requires l).hyphen in
    elim c.in_default.branch [
      | in_default-via-then-behind-lt1 w ↦ omega (arith, ltb-true, ap length e)
      | in_default-via-else-behind-lt1+in_default-1 w ↦ omega (arith, ap (λ l. get_or l 0 0) e)
    ]

pub returns-in_err-number : goal.returns-in_err-number
returns-in_err-number g c =
    rw c.from_residual-in_err-number.ensures
    (λ n rest l. c.in_err-number.ensures n (subst (λ l. FixedText l n) (sym c.in_ok-digits.ensures.cases.0) (placed _ _ n rest c.requires l).digits))
