-- How many numbers lie in runs. Assumes nothing.
use Rattle.std.proofs.Common.{◌≡◌, ℕ, zero, suc, ◌+◌, ◌-◌, ◌<◌, ◌≤◌, Bool, true, false, cond, List, [], ◌∷◌, ◌++◌, sym, refl, ap, ◌∙◌, ⊎_elim, arith}
use Rattle.std.proofs.lemmas.Bool.{both_ways, cases_lt, or_left}
use Rattle.runs.proofs.Ascends.{Rising, covers_below, covers_past, rising_weaker, within_in}
use Rattle.runs.specs.Stretches.{Counts, counted, covers}
use Rattle.runs.specs.declared.run.Run.{Run}

-- the runs' lengths together
abbrev pub total : List Run → ℕ
total [] = 0
total (r ∷ rs) = r.last - r.first + 1 + total rs

pub total_more : (xs : List Run) (r : Run) → total (xs ++ r ∷ []) ≡ total xs + (r.last - r.first + 1)
total_more [] r = omega arith
total_more (x ∷ xs) r = omega (arith, total_more xs r)

-- none of the numbers from a on, below b, passes; or all do
counted_none : (p : ℕ → Bool) (a b : ℕ) → a ≤ b → ((n : ℕ) → a ≤ n → n < b → p n ≡ false) → counted p b ≡ counted p a
counted_none p a zero h f = let e : 0 ≡ a = omega arith in ap (counted p) e
counted_none p a (suc b) h f =
    ⊎_elim
    (λ here. let z : suc b ≡ a = omega arith in ap (counted p) z)
    (λ more. let e : cond {A = ℕ} (p b) 1 0 ≡ 0 = ap (λ t. cond {A = ℕ} t 1 0) (f b more (omega arith)) in omega (arith, counted_none p a b more (λ n g l. f n g (omega arith))))
    (cases_lt b a)

counted_all : (p : ℕ → Bool) (a b : ℕ) → a ≤ b → ((n : ℕ) → a ≤ n → n < b → p n ≡ true) → counted p b ≡ counted p a + (b - a)
counted_all p a zero h f = let z : 0 ≡ a = omega arith in let e : counted p 0 ≡ counted p a = ap (counted p) z in omega arith
counted_all p a (suc b) h f =
    ⊎_elim
    (λ here. let z : suc b ≡ a = omega arith in let e : counted p (suc b) ≡ counted p a = ap (counted p) z in omega arith)
    (λ more. let e : cond {A = ℕ} (p b) 1 0 ≡ 1 = ap (λ t. cond {A = ℕ} t 1 0) (f b more (omega arith)) in omega (arith, counted_all p a b more (λ n g l. f n g (omega arith))))
    (cases_lt b a)

counted_from : (p : ℕ → Bool) (low limit : ℕ) (rs : List Run) → Rising low rs → low ≤ limit → ((n : ℕ) → low ≤ n → covers rs n ≡ p n) → ((n : ℕ) → limit ≤ n → p n ≡ false) → counted p limit ≡ counted p low + total rs
counted_from p low limit [] g h same none = omega (arith, counted_none p low limit h (λ n a b. sym (same n a)))
counted_from p low limit (r ∷ rs) g h same none =
    let inside : (n : ℕ) → r.first ≤ n → n ≤ r.last → p n ≡ true = λ n a b. sym (same n (omega arith)) ∙ or_left _ _ (within_in n r a b) in
    let below : r.last < limit = ⊎_elim (λ l. l) (λ m. absurd (both_ways _ (none r.last m) (inside r.last g.1 (omega arith)))) (cases_lt r.last limit) in
    let before = counted_none p low r.first g.0 (λ n a b. sym (same n a) ∙ covers_below r.first n (r ∷ rs) (omega arith, g.1, g.2) b) in
    let run = counted_all p r.first (suc r.last) (omega arith) (λ n a b. inside n a (omega arith)) in
    let rest = counted_from p (suc r.last) limit rs (rising_weaker (r.last + 2) (suc r.last) rs (omega arith) g.2) below (λ n a. sym (covers_past n r rs a) ∙ same n (omega arith)) none in
    omega arith

pub total_counts : (rs : List Run) → Rising 0 rs → Counts rs (total rs)
total_counts rs g limit none = omega (arith, counted_from (covers rs) 0 limit rs g (omega arith) (λ n _. refl) none)
