use Rattle.std.proofs.Common.{◌≡◌, drop, sym, ap, ◌∙◌, subst, ⊎_elim}
use Rattle.frame.specs.Walks.{AheadIn}
use Rattle.frame.proofs.Fronts.{inside_array}
use Rattle.frame.proofs.Fronts.{opens_at, some_elem}
use Rattle.frame.proofs.Openings.{array_by}
use Rattle.frame.proofs.elements.first_element.Goals as goal
use Rattle.json_text.specs.Grammar.Elems.{elem}
use Rattle.json_text.specs.Parts.{skip}

pub returns-in_err-inside : goal.returns-in_err-inside
returns-in_err-inside c = λ tree at. rw c.from_residual.ensures (λ e es is.
    let i = inside_array tree (elem e es) c.args.s.now at is in
    c.in_err-inside.ensures.found i.inner i.bracket)

pub returns-in-Some : goal.returns-in-Some
returns-in-Some c = λ tree at e es is.
    let i = inside_array tree (elem e es) c.args.s.now at is in
    let here : c.in_ok-inside.inside.now ≡ i.inner = ap (drop 1) (sym c.in_ok-inside.ensures.found ∙ i.bracket) in
    ⊎_elim (λ p. some_elem e es p.0) (λ p. p.1 _ (ap skip (sym here) ∙ c.in-Some.ensures.found)) i.holds

pub returns-in-None : goal.returns-in-None
returns-in-None c = λ tree at.
    let by = array_by tree (opens_at tree c.args.s.now 91 _ at c.in_ok-inside.ensures.found) in
    let i = inside_array tree by.0 c.args.s.now at by.1 in
    let here : c.in_ok-inside.inside.now ≡ i.inner = ap (drop 1) (sym c.in_ok-inside.ensures.found ∙ i.bracket) in
    record {
      values = by.0;
      end = at.behind;
      is = by.1;
      ahead = ⊎_elim (λ p. absurd (c.in-None.ensures.found at.behind (ap skip here ∙ p.1))) (λ p. subst (λ l. AheadIn by.0 l at.behind) (sym here) p.0) i.holds;
    }
