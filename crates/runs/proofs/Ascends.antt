-- Rising runs, and the numbers that lie in them. Assumes nothing.
use Rattle.std.proofs.Common.{◌≡◌, ℕ, suc, ◌+◌, ◌<◌, ◌≤◌, Bool, true, false, ◌||◌, leb, List, [], ◌∷◌, ◌++◌, sym, refl, ap, ◌∙◌, ⊎_elim, arith}
use Rattle.std.proofs.lemmas.Bool.{and_parts, and_from, and_left, and_right, or_cases, or_from, or_left, le-leb, lt-leb, leb-true, cases_Bool, both_ways}
use Rattle.std.specs.List.{AllByRecursion}
use Rattle.runs.specs.Stretches.{within, covers, ascending, Maximal, Stretches}
use Rattle.runs.specs.declared.run.Run.{Run}

-- `ascending` as a fact
abbrev pub Rising : ℕ → List Run → Type 0
Rising low [] = Unit {0}
Rising low (r ∷ rs) = (low ≤ r.first) × (r.first ≤ r.last) × Rising (r.last + 2) rs

pub rising_from : (low : ℕ) (rs : List Run) → ascending low rs ≡ true → Rising low rs
rising_from low [] h = tt
rising_from low (r ∷ rs) h =
    let a = and_parts (leb low r.first) _ h in
    let b = and_parts (leb r.first r.last) _ a.1 in
    (leb-true _ _ a.0, leb-true _ _ b.0, rising_from (r.last + 2) rs b.1)

pub ascending_from : (low : ℕ) (rs : List Run) → Rising low rs → ascending low rs ≡ true
ascending_from low [] h = refl
ascending_from low (r ∷ rs) h =
    and_from _ _ (le-leb _ _ h.0) (and_from _ _ (le-leb _ _ h.1) (ascending_from (r.last + 2) rs h.2))

-- inside and outside of one run
pub within_in : (n : ℕ) (r : Run) → r.first ≤ n → n ≤ r.last → within n r ≡ true
within_in n r g h = and_from _ _ (le-leb _ _ g) (le-leb _ _ h)

pub within_before : (n : ℕ) (r : Run) → n < r.first → within n r ≡ false
within_before n r h = and_left _ _ (lt-leb _ _ h)

pub within_after : (n : ℕ) (r : Run) → r.last < n → within n r ≡ false
within_after n r h = and_right (leb r.first n) _ (lt-leb _ _ h)

pub within_parts : (n : ℕ) (r : Run) → within n r ≡ true → (r.first ≤ n) × (n ≤ r.last)
within_parts n r h = let a = and_parts (leb r.first n) _ h in (leb-true _ _ a.0, leb-true _ _ a.1)

-- the first of the runs has no part in what lies past it
pub covers_past : (n : ℕ) (r : Run) (rs : List Run) → r.last < n → covers (r ∷ rs) n ≡ covers rs n
covers_past n r rs h = ap (λ b. b || covers rs n) (within_after n r h)

pub covers_append : (xs ys : List Run) (n : ℕ) → covers (xs ++ ys) n ≡ (covers xs n || covers ys n)
covers_append [] ys n = refl
covers_append (x ∷ xs) ys n =
    ap (λ b. within n x || b) (covers_append xs ys n) ∙ or_assoc (within n x) (covers xs n) (covers ys n)
  where
    or_assoc : (a b c : Bool) → (a || (b || c)) ≡ ((a || b) || c)
    or_assoc true b c = refl
    or_assoc false b c = refl

pub rising_weaker : (low lower : ℕ) (rs : List Run) → lower ≤ low → Rising low rs → Rising lower rs
rising_weaker low lower [] h g = tt
rising_weaker low lower (r ∷ rs) h g = (omega arith, g.1, g.2)

-- no number below the bound lies in the runs
pub covers_below : (low n : ℕ) (rs : List Run) → Rising low rs → n < low → covers rs n ≡ false
covers_below low n [] g h = refl
covers_below low n (r ∷ rs) g h =
    or_from _ _ (within_before n r (omega arith)) (covers_below (r.last + 2) n rs g.2 (omega arith))

-- the runs are maximal stretches of what passes from `low` on
maximal_from : (passes : ℕ → Bool) (low : ℕ) (rs : List Run) → Rising low rs → ((n : ℕ) → low ≤ suc n → covers rs n ≡ passes n) → AllByRecursion (Maximal passes) rs
maximal_from passes low [] g same = tt
maximal_from passes low (r ∷ rs) g same = (
  record {
    some = g.1;
    inside = λ n h k. sym (same n (omega arith)) ∙ or_left _ _ (within_in n r h k);
    not_before = λ n h. sym (same n (omega arith)) ∙ or_from _ _ (within_before n r (omega arith)) (covers_below (r.last + 2) n rs g.2 (omega arith));
    not_after = sym (same (suc r.last) (omega arith)) ∙ or_from _ _ (within_after (suc r.last) r (omega arith)) (covers_below (r.last + 2) (suc r.last) rs g.2 (omega arith));
  },
  maximal_from passes (r.last + 2) rs g.2 (λ n h. sym (covers_past n r rs (omega arith)) ∙ same n (omega arith)),
)

-- rising runs with exactly the numbers that pass are their maximal stretches
pub stretches_exact : (passes : ℕ → Bool) (rs : List Run) → Rising 0 rs → ((n : ℕ) → covers rs n ≡ passes n) → Stretches passes rs
stretches_exact passes rs g same =
    record {
      rising = ascending_from 0 rs g;
      maximal = maximal_from passes 0 rs g (λ n _. same n);
      complete = λ n h. same n ∙ h;
    }

inside_one : (passes : ℕ → Bool) (rs : List Run) (n : ℕ) → AllByRecursion (Maximal passes) rs → covers rs n ≡ true → passes n ≡ true
inside_one passes [] n m h = absurd (both_ways _ refl h)
inside_one passes (r ∷ rs) n m h =
    ⊎_elim
    (λ here. let p = within_parts n r here in m.0.inside n p.0 p.1)
    (λ later. inside_one passes rs n m.1 later)
    (or_cases (within n r) (covers rs n) h)

-- and the maximal stretches have exactly the numbers that pass
pub covers_is : (passes : ℕ → Bool) (rs : List Run) → Stretches passes rs → (n : ℕ) → covers rs n ≡ passes n
covers_is passes rs s n =
    ⊎_elim
    (λ yes'. yes' ∙ sym (inside_one passes rs n s.maximal yes'))
    (λ no'. no' ∙ sym (⊎_elim (λ p. absurd (both_ways _ no' (s.complete n p))) (λ p. p) (cases_Bool (passes n))))
    (cases_Bool (covers rs n))
