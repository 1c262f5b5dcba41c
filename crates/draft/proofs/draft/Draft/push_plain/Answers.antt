use Rattle.std.proofs.Common.{ap, ◌∙◌, subst, arith}
use Rattle.decimal.proofs.Plain.{plain_fixed}
use Rattle.decimal.specs.Decimal.{fixed}
use Rattle.draft.proofs.draft.Draft.push_plain.Goals as goal
use Rattle.draft.specs.Growing.{Grows, text_in}

pub returns : goal.returns
returns c =
    subst (λ l. Grows (text_in c.args.self.now) l (text_in c.push_fixed.new.self))
    (ap (λ w. fixed w c.args.number) c.plain_width.ensures ∙ plain_fixed c.args.number (omega arith))
    c.push_fixed.ensures
