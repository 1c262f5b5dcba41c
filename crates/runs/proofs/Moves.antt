-- Moving elements up or down by one place in a part of a list. Assumes nothing.
use Rattle.std.proofs.Common.{◌≡◌, ℕ, ◌+◌, ◌-◌, ◌<◌, ◌≤◌, List, [], ◌∷◌, ◌++◌, length, get_or, take, drop, set, sym, ap, ◌∙◌, ap₂, arith, rules}
use borrow.Rule.Slice.PartMut.{put_mid}
use Rattle.std.proofs.lemmas.List.{append_assoc, get_or-set_same, length-set, places, same_lists, set-set, take_more_set, take-take}
use Rattle.std.proofs.lemmas.Bool.{cases_eq}

pub move_up : {X : Type 0} (mem rot : List X) (c p : ℕ) (x : X) → p ≤ c → c < length mem → length rot ≡ c + 1 - p → ((i : ℕ) (d : X) → 1 ≤ i → i < c + 1 - p → get_or rot i d ≡ get_or mem (p + i - 1) d) → take (c + 1) (set (put_mid p (c + 1 - p) mem rot) p x) ≡ take p (take c mem) ++ x ∷ drop p (take c mem)
move_up mem rot c p x h g len moved = same_lists _ _ (search (rules, places)) (λ k d l. grind (arith, places, get_or-set_same, cases_eq k p))

-- the elements past p come down by one, over the one after p
down : {X : Type 0} (mem rot : List X) (c p : ℕ) → p + 1 < c → c ≤ length mem → length rot ≡ c - (p + 1) → take (c - 1) (put_mid (p + 1) (c - (p + 1)) mem rot) ≡ take (p + 1) mem ++ take (c - 1 - (p + 1)) rot
down mem rot c p h g len = same_lists _ _ (search (rules, places)) (λ k d l. grind (arith, places))

rest : {X : Type 0} (mem rot : List X) (c p : ℕ) → p + 1 < c → c ≤ length mem → length rot ≡ c - (p + 1) → ((i : ℕ) (d : X) → i < c - (p + 1) - 1 → get_or rot i d ≡ get_or mem (p + 2 + i) d) → take (c - 1 - (p + 1)) rot ≡ drop (p + 2) (take c mem)
rest mem rot c p h g len moved = same_lists _ _ (search (rules, places)) (λ k d l. grind (arith, places))

pub move_down : {X : Type 0} (mem rot : List X) (c p : ℕ) (x y : X) → p + 1 < c → c ≤ length mem → length rot ≡ c - (p + 1) → ((i : ℕ) (d : X) → i < c - (p + 1) - 1 → get_or rot i d ≡ get_or mem (p + 2 + i) d) → take (c - 1) (put_mid (p + 1) (c - (p + 1)) (set (set mem p x) p y) rot) ≡ take p (take c mem) ++ y ∷ drop (p + 2) (take c mem)
move_down mem rot c p x y h g len moved =
    ap (λ m. take (c - 1) (put_mid (p + 1) (c - (p + 1)) m rot)) (set-set mem p x y)
    ∙ down (set mem p y) rot c p h (simp length-set g) len
    ∙ ap₂ (λ a b. a ++ b) (take_more_set mem p y (omega arith) ∙ ap (λ l. l ++ y ∷ []) (sym (take-take p c mem (omega arith)))) (rest mem rot c p h g len moved)
    ∙ append_assoc (take p (take c mem)) (y ∷ []) (drop (p + 2) (take c mem))

-- one element changed, among those that count
pub set_used : {X : Type 0} (mem : List X) (c p : ℕ) (x : X) → p < c → c ≤ length mem → take c (set mem p x) ≡ take p (take c mem) ++ x ∷ drop (p + 1) (take c mem)
set_used mem c p x h g = same_lists _ _ (search (rules, places)) (λ k d l. grind (arith, places, get_or-set_same, cases_eq k p))
