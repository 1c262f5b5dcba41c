use Rattle.std.proofs.Common.{refl, arith}
use Rattle.decimal.proofs.Widths.{length_fixed}
use Rattle.draft.proofs.Places.{text_length}
use Rattle.draft.proofs.draft.Draft.push_fixed.Goals as goal
use Rattle.draft.proofs.draft.Draft.push_fixed.Goals.{After-write_fixed}

pub returns-then-width-start : goal.returns-then-width-start
returns-then-width-start c =
    let self = c.args.self.now in
    record { taken = λ fits. absurd (omega (arith, text_length self, length_fixed c.args.width c.args.number)); kept = λ _. refl }
