-- An array that begins with an object. Assumes nothing.
use Rattle.std.proofs.Common.{◌≡◌, ℕ, ◌≤◌, List, ◌∷◌, drop, Some, None, Option, sym, refl, ap, ◌∙◌, inl, inr, ⊎_elim, Bor, MatchOption}
use Rattle.frame.specs.Walks.{Begins, BehindIn}
use Rattle.frame.proofs.Fours.{ahead_some, head_elem, size}
use Rattle.frame.proofs.Fronts.{braced, front_in, inside_begun, opened, opens_with, skipped, some_elem, two_firsts}
use Rattle.frame.proofs.Openings.{array_by, object_by}
use Rattle.frame_reader.specs.Walks.{FirstObject, NoObject}
use Rattle.json_text.specs.Grammar.{Elems, Json}
use Rattle.json_text.specs.Grammar.Elems.{no_elem, elem}
use Rattle.json_text.specs.Grammar.Json.{jarray, jobject}
use Rattle.json_text.specs.Parts.{skip}

-- an array that begins with an object, by its first two bytes
pub first_cases : (tree : Json) (s behind first : List ℕ) (o : Option (Bor (List ℕ))) → Begins tree s behind → skip s ≡ 91 ∷ first
    → MatchOption o ((rest : List ℕ) → skip first ≡ 123 ∷ rest → ⊥) (λ x. skip first ≡ 123 ∷ x.now)
    → MatchOption o (NoObject tree) (λ x. FirstObject tree x.now behind)
first_cases tree s behind first None b bracket none = λ ms es is.
    let i = inside_begun tree (elem (jobject ms) es) s behind b is in
    let here : first ≡ i.inner = ap (drop 1) (sym bracket ∙ i.bracket) in
    ⊎_elim (λ p. some_elem (jobject ms) es p.0) (λ p.
    let f = front_in (elem (jobject ms) es) p.0.bytes behind i.inner p.0.whole p.0.is in
    let brace = braced f.tree ms (skip i.inner) f.behind f.value (ap head_elem (sym f.is)) in
    none brace.0 (ap skip here ∙ brace.1)) i.holds
first_cases tree s behind first (Some x) b bracket found =
    let by = array_by tree (opens_with tree (skip s) behind 91 first (skipped b) bracket) in
    let i = inside_begun tree by.0 s behind b by.1 in
    let here : first ≡ i.inner = ap (drop 1) (sym bracket ∙ i.bracket) in
    let brace : skip i.inner ≡ 123 ∷ x.now = ap skip (sym here) ∙ found in
    ⊎_elim (λ p. absurd (two_firsts _ 93 123 behind x.now refl p.1 brace)) (λ p.
    let f = front_in by.0 p.0.bytes behind i.inner p.0.whole p.0.is in
    let object = object_by f.tree (opens_with f.tree (skip i.inner) f.behind 123 x.now f.value brace) in
    record {
      members = object.0;
      others = f.others;
      is = by.1 ∙ ap jarray (f.is ∙ ap (λ t. elem t f.others) object.1);
      behind = f.behind;
      opened = opened f.tree object.0 (skip i.inner) f.behind x.now f.value object.1 brace;
      more = f.more;
    }) i.holds

-- after the only value of an array its end comes
pub ends_here : (others : Elems) (b behind end x : List ℕ) → b ≡ behind → skip b ≡ 93 ∷ x → BehindIn others behind end → (others ≡ no_elem) × (x ≡ end)
ends_here others b behind end x e found (inl (none, close)) = (none, ap (drop 1) (sym found ∙ ap skip e ∙ close))
ends_here others b behind end x e found (inr (rest, comma, ahead)) = absurd (two_firsts _ 93 44 x rest refl found (ap skip e ∙ comma))

-- where no end comes, more values do
pub goes_on : (others : Elems) (b behind end : List ℕ) → b ≡ behind → ((rest : List ℕ) → skip b ≡ 93 ∷ rest → ⊥) → BehindIn others behind end → 1 ≤ size others
goes_on others b behind end e none (inl (no_more, close)) = absurd (none end (ap skip e ∙ close))
goes_on others b behind end e none (inr (rest, comma, ahead)) = ahead_some others rest end ahead
