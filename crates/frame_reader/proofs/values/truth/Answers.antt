use Rattle.std.proofs.Common.{◌∙◌}
use Rattle.frame_reader.proofs.Forms.{false_by_bytes, true_by_bytes}
use Rattle.frame_reader.proofs.values.truth.Goals as goal
use Rattle.std.proofs.lemmas.Slice.Eq.{slice_eq-Decides}
use Rattle.std.proofs.lemmas.Bool.Decides.{Decides-eqb}

pub returns-then-eq : goal.returns-then-eq
returns-then-eq c = λ tree v. true_by_bytes tree _ v ((slice_eq-Decides Decides-eqb _ _ _ c.eq.ensures).0 c.if-eq.true ∙ c.as_slice.ensures)

pub returns-then-eq-2 : goal.returns-then-eq-2
returns-then-eq-2 c = λ tree v. false_by_bytes tree _ v ((slice_eq-Decides Decides-eqb _ _ _ c.eq-else-eq.ensures).0 c.if-eq-2.true ∙ c.as_slice-else-eq.ensures)
