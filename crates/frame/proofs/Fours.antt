-- Counting an array's values as they are taken off. Assumes nothing.
use Rattle.std.proofs.Common.{◌≡◌, ℕ, suc, ◌≤◌, true, false, List, is_some, Some, None, Option, sym, ap, ◌∙◌, subst, arith, Bor}
use Rattle.frame.proofs.Fronts.{front_in}
use Rattle.std.proofs.lemmas.Bool.{false≢true, true≢false}
use Rattle.frame.specs.Call.{NotFour, array_of_four}
use Rattle.frame.specs.Walks.{AheadIn, LeftIn}
use Rattle.json_text.specs.Grammar.{Elems, Json}
use Rattle.json_text.specs.Grammar.Elems.{no_elem, elem}
use Rattle.json_text.specs.Grammar.Json.{jnull, jtrue, jfalse, jnumber, jstring, jarray, jobject}

abbrev pub size : Elems → ℕ
size no_elem = 0
size (elem e es) = suc (size es)

abbrev pub size_of : Json → ℕ
size_of jnull = 0
size_of jtrue = 0
size_of jfalse = 0
size_of (jnumber n) = 0
size_of (jstring s) = 0
size_of (jarray es) = size es
size_of (jobject ms) = 0

pub not_four : (tree : Json) → (size_of tree ≡ 4 → ⊥) → NotFour tree
not_four tree h a b c d is = h (ap size_of is)

-- the next one can be taken off where something is left
pub ahead_of : (o : Elems) (end : List ℕ) (rest : Option (Bor (List ℕ))) (x : Bor (List ℕ)) → LeftIn o end rest → rest ≡ Some x → AheadIn o x.now end
ahead_of o end rest x left e = subst (LeftIn o end) e left

pub none_left : (o : Elems) (end : List ℕ) (rest : Option (Bor (List ℕ))) → LeftIn o end rest → rest ≡ None → o ≡ no_elem
none_left o end rest left e = subst (LeftIn o end) e left

-- a comma is followed by more
pub ahead_some : (o : Elems) (s end : List ℕ) → AheadIn o s end → 1 ≤ size o
ahead_some o s end ahead = let f = front_in o ahead.bytes end s ahead.whole ahead.is in omega (arith, ap size f.is)

-- something is left, or nothing
pub some_left : (o : Elems) (end : List ℕ) (rest : Option (Bor (List ℕ))) → is_some rest ≡ true → LeftIn o end rest → 1 ≤ size o
some_left o end None h left = absurd (false≢true h)
some_left o end (Some x) h left = ahead_some o x.now end left

pub nothing_left : (o : Elems) (end : List ℕ) (rest : Option (Bor (List ℕ))) → is_some rest ≡ false → LeftIn o end rest → o ≡ no_elem
nothing_left o end None h left = left
nothing_left o end (Some x) h left = absurd (true≢false h)

-- the value at a place of an array
abbrev pub elems_of : Json → Elems
elems_of jnull = no_elem
elems_of jtrue = no_elem
elems_of jfalse = no_elem
elems_of (jnumber n) = no_elem
elems_of (jstring s) = no_elem
elems_of (jarray es) = es
elems_of (jobject ms) = no_elem

abbrev pub head_elem : Elems → Json
head_elem no_elem = jnull
head_elem (elem e es) = e

abbrev pub tail_elems : Elems → Elems
tail_elems no_elem = no_elem
tail_elems (elem e es) = es

-- an array of four has these four and no others
pub same_front : (tree a b c d : Json) (others : Elems) (p q r s : Json) → tree ≡ jarray (elem a (elem b (elem c (elem d others)))) → tree ≡ array_of_four p q r s
    → (a ≡ p) × (b ≡ q) × (c ≡ r) × (d ≡ s) × (others ≡ no_elem)
same_front tree a b c d others p q r s e f =
    let g = sym e ∙ f in
    let tails : Json → Elems = λ t. tail_elems (tail_elems (tail_elems (elems_of t))) in
    (ap (λ t. head_elem (elems_of t)) g, ap (λ t. head_elem (tail_elems (elems_of t))) g, ap (λ t. head_elem (tail_elems (tail_elems (elems_of t)))) g, ap (λ t. head_elem (tails t)) g, ap (λ t. tail_elems (tails t)) g)

pub same_four : (tree a b c d p q r s : Json) → tree ≡ array_of_four a b c d → tree ≡ array_of_four p q r s → (a ≡ p) × (b ≡ q) × (c ≡ r) × (d ≡ s)
same_four tree a b c d p q r s e f = let h = same_front tree a b c d no_elem p q r s e f in (h.0, h.1, h.2, h.3)
