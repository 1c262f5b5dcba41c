use Rattle.std.proofs.Common.{codes, refl}
use Rattle.frame_reader.proofs.meter.SampleMembersCollects.take.Goals as goal

pub returns : goal.returns
returns c = record {
  through = λ end start ms left t far.
      let v = c.cut.ensures.through t.tree t.behind t.value in
      ((c.note-self.ensures (codes "value") _ end ms left refl t v.0 far.0, c.note-self-2.ensures (codes "measurand") _ end ms left refl t v.0 far.1), v.1);
  bound = c.cut.ensures.bound;
}
