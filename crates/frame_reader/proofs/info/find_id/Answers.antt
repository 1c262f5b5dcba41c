use Rattle.std.proofs.Common.{codes, sym, refl, subst, arith}
use Rattle.frame_reader.specs.Fields.{IdFinds}
use Rattle.frame_reader.specs.Frame.{Must}
use Rattle.frame.proofs.Fronts.{braced, opened, opens_with, skipped}
use Rattle.frame_reader.proofs.Onlys.{absent, no_members}
use Rattle.frame.proofs.Openings.{object_by}
use Rattle.frame_reader.proofs.info.find_id.Goals as goal

pub returns-in_default : goal.returns-in_default
returns-in_default c = record {
  through = λ tree behind b.
      let none = no_members tree (λ ms is. let i = braced tree ms _ behind (skipped b) is in c.in_default.ensures.found i.0 i.1) in
      ((absent (Must (codes "transactionId")) none, none), (c.cut.ensures.through tree behind b).1);
  bound = c.cut.ensures.bound;
}

pub returns : goal.returns
returns c = record {
  through = λ tree behind b.
      let found = c.in-Some.ensures.found in
      let object = object_by tree (opens_with tree _ behind 123 _ (skipped b) found) in
      let walk = c.find_inside.ensures.through (codes "transactionId") refl object.0 behind (opened tree object.0 _ behind _ (skipped b) object.1 found) in
      (subst (λ t. IdFinds t c.id_of.result) (sym object.1) (c.id_of.ensures object.0 walk.0), walk.1);
  bound = omega (arith, c.find_inside.ensures.bound, c.in-Some.ensures.shorter);
}
