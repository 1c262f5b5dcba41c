-- Changing runs at one place so that they take in one number more. Assumes nothing.
use Rattle.std.proofs.Common.{◌≡◌, ℕ, suc, ◌+◌, ◌≤◌, min, max, Bool, true, false, ◌||◌, eqb, List, [], ◌∷◌, ◌++◌, refl, ap, ◌∙◌, arith}
use Rattle.std.proofs.lemmas.Bool.Decides.{nat_tests}
use Rattle.std.specs.List.{AllByRecursion}
use Rattle.runs.specs.Stretches.{within, covers, with_number, Stretches}
use Rattle.runs.specs.declared.run.Run.{Run}
use Rattle.runs.proofs.Ascends.{Rising, stretches_exact}

-- the same runs from `low` on, and n
abbrev pub With : ℕ → ℕ → List Run → List Run → Type 0
With n low xs ys = Rising low ys × ((m : ℕ) → covers ys m ≡ (covers xs m || eqb m n))

or_last : (a b c : Bool) → (a || (b || c)) ≡ ((a || b) || c)
or_last true b c = refl
or_last false b c = refl

or_swap : (a b c : Bool) → ((a || c) || b) ≡ ((a || b) || c)
or_swap true b c = refl
or_swap false true true = refl
or_swap false true false = refl
or_swap false false true = refl
or_swap false false false = refl

-- a change behind runs that end before n is a change of the whole
edit_from : (pre xs ys : List Run) (n low : ℕ) → low ≤ n → AllByRecursion (λ r. r.last + 2 ≤ n) pre → Rising low (pre ++ xs) → ((l : ℕ) → l ≤ n → Rising l xs → With n l xs ys) → With n low (pre ++ xs) (pre ++ ys)
edit_from [] xs ys n low h a g change = change low h g
edit_from (p ∷ pre) xs ys n low h a g change =
    let rest = edit_from pre xs ys n (p.last + 2) a.0 a.1 g.2 change in
    ((g.0, g.1, rest.0), λ m. ap (λ b. within m p || b) (rest.1 m) ∙ or_last (within m p) (covers (pre ++ xs) m) (eqb m n))

pub edit : (pre xs ys : List Run) (n : ℕ) → AllByRecursion (λ r. r.last + 2 ≤ n) pre → Rising 0 (pre ++ xs) → ((l : ℕ) → l ≤ n → Rising l xs → With n l xs ys) → Stretches (with_number (covers (pre ++ xs)) n) (pre ++ ys)
edit pre xs ys n a g change =
    let whole = edit_from pre xs ys n 0 (omega arith) a g change in
    stretches_exact (with_number (covers (pre ++ xs)) n) (pre ++ ys) whole.0 whole.1

-- the run with the number taken in
abbrev pub widened : Run → ℕ → Run
widened r n = record { first = min r.first n; last = max r.last n }

-- the two runs with all between
abbrev pub joined : Run → Run → Run
joined r s = record { first = r.first; last = s.last }

-- in front of runs that the number does not touch
pub opened : (n l : ℕ) (xs : List Run) → l ≤ n → Rising (n + 2) xs → With n l xs (record { first = n; last = n } ∷ xs)
opened n l xs h g = ((h, omega arith, g), λ m. ap (λ b. b || covers xs m) (alone m) ∙ or_comm (eqb m n) (covers xs m))
  where
    alone : (m : ℕ) → within m (record { first = n; last = n }) ≡ eqb m n
    alone m = grind (arith, nat_tests)

    or_comm : (a b : Bool) → (a || b) ≡ (b || a)
    or_comm true true = refl
    or_comm true false = refl
    or_comm false true = refl
    or_comm false false = refl

-- at a run that it touches, where it does not touch the next
pub taken_in : (n l : ℕ) (r : Run) (ys : List Run) → l ≤ n → r.first ≤ suc n → n ≤ suc r.last → Rising l (r ∷ ys) → Rising (max r.last n + 2) ys → With n l (r ∷ ys) (widened r n ∷ ys)
taken_in n l r ys h begins ends g clear = ((omega arith, omega arith, clear), λ m. ap (λ b. b || covers ys m) (one m) ∙ or_swap (within m r) (covers ys m) (eqb m n))
  where
    one : (m : ℕ) → within m (widened r n) ≡ (within m r || eqb m n)
    one m = grind (arith, nat_tests)

-- between two runs that it touches both
pub joins : (n l : ℕ) (r s : Run) (ys : List Run) → l ≤ n → r.first ≤ suc n → n ≤ suc r.last → s.first ≤ suc (max r.last n) → Rising l (r ∷ (s ∷ ys)) → With n l (r ∷ (s ∷ ys)) (joined (widened r n) s ∷ ys)
joins n l r s ys h begins ends near g = ((omega arith, omega arith, g.2.2), λ m. ap (λ b. b || covers ys m) (two m) ∙ shuffle (within m r) (within m s) (covers ys m) (eqb m n))
  where
    two : (m : ℕ) → within m (joined (widened r n) s) ≡ ((within m r || within m s) || eqb m n)
    two m = grind (arith, nat_tests)

    shuffle : (a b c d : Bool) → (((a || b) || d) || c) ≡ ((a || (b || c)) || d)
    shuffle true b c d = refl
    shuffle false b c d = or_swap b c d
