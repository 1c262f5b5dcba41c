use Rattle.std.proofs.Common.{codes, sym, ap, ◌∙◌, subst}
use Rattle.frame_reader.specs.Fields.{SampledFinds}
use Rattle.frame.specs.Slots.{SoFar}
use Rattle.frame.specs.Walks.{quoted}
use Rattle.frame.proofs.Looks.{hit, miss, unquoted}
use Rattle.frame_reader.proofs.meter.MeterMembersCollects.take.Goals as goal
use Rattle.std.proofs.lemmas.Slice.Eq.{slice_eq-Decides}
use Rattle.std.proofs.lemmas.Bool.{both_ways}
use Rattle.std.proofs.lemmas.Bool.Decides.{Decides-eqb}

pub returns-then-eq : goal.returns-then-eq
returns-then-eq c = record {
  through = λ end start ms left t far.
      let named = unquoted t.called (codes "sampledValue") (sym t.name_is ∙ (slice_eq-Decides Decides-eqb _ _ _ c.eq.ensures).0 c.if-eq.true) in
      let sampled = c.find_sampled.ensures.through t.tree t.behind t.value in
      (subst (λ f. SoFar SampledFinds f (codes "sampledValue") ms t.others) (sym c.add-self.ensures) (hit SampledFinds _ _ (codes "sampledValue") ms left t.called t.tree t.others t.is named sampled.0 far), sampled.1);
  bound = c.find_sampled.ensures.bound;
}

pub returns : goal.returns
returns c = record {
  through = λ end start ms left t far.
      let d = slice_eq-Decides Decides-eqb _ _ _ c.eq.ensures in
      (miss SampledFinds _ (codes "sampledValue") ms left t.called t.tree t.others t.is (λ q. both_ways c.eq.result c.if-eq.false (d.1 (t.name_is ∙ ap quoted q))) far, (c.cut.ensures.through t.tree t.behind t.value).1);
  bound = c.cut.ensures.bound;
}
