use Rattle.std.proofs.Common.{drop, sym, refl, ap, ◌∙◌, ⊎_elim, arith}
use Rattle.frame.proofs.Fronts.{front, two_firsts}
use Rattle.frame.proofs.walk.first_member.Goals as goal

pub returns-in-Some : goal.returns-in-Some
returns-in-Some c = record {
  left = λ ms end o.
      let found = c.in-Some.ensures.found in
      ⊎_elim (λ p. (p.0, ap (drop 1) (sym found ∙ p.1))) (λ ahead.
      let f = front ms ahead.bytes end c.args.s.now ahead.whole ahead.is in
      absurd (two_firsts _ 34 125 _ _ refl f.name_front found)) o;
  bound = omega (arith, c.in-Some.ensures.shorter);
}
