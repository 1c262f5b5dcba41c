use Rattle.std.proofs.Common.{ap, ◌∙◌}
use Rattle.frame.proofs.members.LookCollects.take.Goals as goal

pub returns : goal.returns
returns c = record {
  through = λ end start ms left t far.
      let v = c.cut.ensures.through t.tree t.behind t.value in
      ((far.0, λ word e. c.note-self.ensures word _ end ms left (ap (λ n. n.now) far.0 ∙ e) t v.0 (far.1 word e)), v.1);
  bound = c.cut.ensures.bound;
}
