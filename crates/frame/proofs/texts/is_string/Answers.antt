use Rattle.std.proofs.Common.{sym, ◌∙◌}
use Rattle.frame.proofs.Scalars.{string_by_bytes, string_bytes_are}
use Rattle.frame.proofs.texts.is_string.Goals as goal
use Rattle.std.proofs.lemmas.Slice.Eq.{slice_eq-Decides}
use Rattle.std.proofs.lemmas.Bool.Decides.{Decides-eqb}

pub returns : goal.returns
returns c = λ tree s v-is w.
    let d = slice_eq-Decides Decides-eqb _ _ _ c.eq.ensures in
    ((λ h. string_by_bytes tree s c.args.value.now v-is (d.0 h ∙ w)), (λ e. d.1 (string_bytes_are tree s c.args.value.now v-is e ∙ sym w)))
