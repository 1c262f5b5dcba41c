use Rattle.std.proofs.Common.{sym, ◌∙◌, subst}
use Rattle.frame.specs.Slots.{Bytes, SoFar}
use Rattle.frame.proofs.Looks.{hit}
use Rattle.frame.proofs.Looks.{unquoted}
use Rattle.frame.proofs.members.note.Goals as goal
use Rattle.std.proofs.lemmas.Slice.Eq.{slice_eq-Decides}
use Rattle.std.proofs.lemmas.Bool.Decides.{Decides-eqb}

pub returns-then-eq : goal.returns-then-eq
returns-then-eq c = λ word start end ms left e t v far.
    let d = slice_eq-Decides Decides-eqb _ _ _ c.eq.ensures in
    subst (λ f. SoFar Bytes f word ms t.others) (sym c.add.ensures)
    (hit Bytes _ _ word ms left t.called t.tree t.others t.is (unquoted t.called word (sym t.name_is ∙ d.0 c.if-eq.true ∙ e)) v far)
