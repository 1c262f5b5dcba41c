-- The gaps between runs are the stretches of the numbers between them. Assumes nothing.
use Rattle.std.proofs.Common.{◌≡◌, ℕ, zero, suc, ◌+◌, ◌-◌, ◌<◌, ◌≤◌, true, false, cond, not, ◌&&◌, ◌||◌, ltb, List, [], ◌∷◌, ◌++◌, length, get_or, take, sym, refl, ap, ◌∙◌, ⊎_elim, le_of_suc-le-suc, arith}
use Rattle.std.proofs.lemmas.List.{append_assoc, append-nil}
use Rattle.std.proofs.lemmas.Bool.{both_ways, or_cases, and_from, and_left, and_right, cases_lt, cond_both, le-ltb, lt-ltb, ltb-true, ltb-false, or_from, or_left, or_right}
use Rattle.runs.proofs.Ascends.{Rising, covers_append, covers_below, covers_past, rising_weaker, within_after, within_in, within_parts}
use Rattle.runs.specs.Gaps.{between, highest}
use Rattle.runs.specs.Stretches.{covers, within}
use Rattle.runs.specs.declared.run.Run.{Run}

-- the numbers from a on, below b
abbrev pub gap : ℕ → ℕ → List Run
gap a b = cond (ltb a b) (record { first = a; last = b - 1 } ∷ []) []

-- the first number above the runs, from `low` on
abbrev pub edge : ℕ → List Run → ℕ
edge low [] = low
edge low (r ∷ rs) = edge (suc r.last) rs

-- the gaps in front of runs, from `low` on
abbrev pub gaps_from : ℕ → List Run → List Run
gaps_from low [] = []
gaps_from low (r ∷ rs) = gap low r.first ++ gaps_from (suc r.last) rs

-- one run more, above the others
pub gaps_more : (low : ℕ) (xs : List Run) (r : Run) → gaps_from low (xs ++ r ∷ []) ≡ gaps_from low xs ++ gap (edge low xs) r.first
gaps_more low [] r = append-nil (gap low r.first)
gaps_more low (x ∷ xs) r = ap (λ l. gap low x.first ++ l) (gaps_more (suc x.last) xs r) ∙ sym (append_assoc (gap low x.first) (gaps_from (suc x.last) xs) (gap (edge (suc x.last) xs) r.first))

pub gaps_rising : (low : ℕ) (rs : List Run) → Rising low rs → Rising low (gaps_from low rs)
gaps_rising low [] g = tt
gaps_rising low (r ∷ rs) g =
    let rest = gaps_rising (suc r.last) rs (rising_weaker (r.last + 2) (suc r.last) rs (omega arith) g.2) in
    cond_both (ltb low r.first) _ _ (λ l. Rising low (l ++ gaps_from (suc r.last) rs))
    (λ e. let lt = ltb-true low r.first e in (omega arith, omega arith, rising_weaker (suc r.last) (r.first - 1 + 2) (gaps_from (suc r.last) rs) (omega arith) rest))
    (λ e. rising_weaker (suc r.last) low (gaps_from (suc r.last) rs) (omega arith) rest)

-- the last of rising runs is the highest
highest_above : (low : ℕ) (r : Run) (rs : List Run) → Rising low (r ∷ rs) → r.last ≤ highest (r ∷ rs)
highest_above low r [] g = omega arith
highest_above low r (s ∷ rs) g = let up = highest_above (r.last + 2) s rs g.2 in omega arith

gap_covers : (a b n : ℕ) → a ≤ n → covers (gap a b) n ≡ ltb n b
gap_covers a b n h =
    cond_both (ltb a b) _ _ (λ l. covers l n ≡ ltb n b)
    (λ e. let lt = ltb-true a b e in ⊎_elim (λ less. or_left _ _ (within_in n _ h (omega arith)) ∙ sym (lt-ltb n b less)) (λ more. or_from _ _ (within_after n _ (omega arith)) refl ∙ sym (le-ltb n b more)) (cases_lt n b))
    (λ e. sym (le-ltb n b (omega (arith, ltb-false a b e))))

-- what lies in the gaps is what lies between
pub gaps_cover : (low n : ℕ) (rs : List Run) → Rising low rs → low ≤ n → covers (gaps_from low rs) n ≡ between rs n
gaps_cover low n [] g h = sym (and_left _ _ (le-ltb n 0 (omega arith)))
gaps_cover low n (r ∷ rs) g h =
    let tail = gaps_from (suc r.last) rs in
    let rising : Rising (suc r.last) rs = rising_weaker (r.last + 2) (suc r.last) rs (omega arith) g.2 in
    let split : covers (gap low r.first ++ tail) n ≡ (ltb n r.first || covers tail n) = covers_append (gap low r.first) tail n ∙ ap (λ b. b || covers tail n) (gap_covers low r.first n h) in
    ⊎_elim
    (λ before. split ∙ or_left _ _ (lt-ltb n r.first before) ∙ sym (and_from _ _ (lt-ltb n _ (let up = highest_above low r rs g in omega arith)) (ap not (covers_below r.first n (r ∷ rs) (omega arith, g.1, g.2) before))))
    (λ from. ⊎_elim
    (λ past. split ∙ ap (λ b. b || covers tail n) (le-ltb n r.first from) ∙ gaps_cover (suc r.last) n rs rising past ∙ above rs past)
    (λ inside. split ∙ ap (λ b. b || covers tail n) (le-ltb n r.first from) ∙ covers_below (suc r.last) n tail (gaps_rising (suc r.last) rs rising) (omega arith) ∙ sym (and_right _ _ (ap not (or_left _ _ (within_in n r from inside)))))
    (cases_lt r.last n))
    (cases_lt n r.first)
  where
    above : (qs : List Run) → r.last < n → between qs n ≡ between (r ∷ qs) n
    above [] past = and_left _ _ (le-ltb n 0 (omega arith)) ∙ sym (and_left _ _ (le-ltb n r.last (omega arith)))
    above (q ∷ qs) past = ap (λ b. ltb n (highest (q ∷ qs)) && not b) (sym (covers_past n r (q ∷ qs) past))

-- the neighbours in rising runs
pub rising_here : (low : ℕ) (rs : List Run) (i : ℕ) (d : Run) → Rising low rs → i < length rs → (get_or rs i d).first ≤ (get_or rs i d).last
rising_here low [] i d g h = absurd (omega arith)
rising_here low (r ∷ rs) zero d g h = g.1
rising_here low (r ∷ rs) (suc i) d g h = rising_here (r.last + 2) rs i d g.2 (le_of_suc-le-suc h)

pub rising_next : (low : ℕ) (rs : List Run) (i : ℕ) (d : Run) → Rising low rs → suc i < length rs → (get_or rs i d).last + 2 ≤ (get_or rs (suc i) d).first
rising_next low [] i d g h = absurd (omega arith)
rising_next low (r ∷ []) i d g h = absurd (omega arith)
rising_next low (r ∷ (s ∷ rs)) zero d g h = g.2.0
rising_next low (r ∷ (s ∷ rs)) (suc i) d g h = rising_next (r.last + 2) (s ∷ rs) i d g.2 (le_of_suc-le-suc h)

pub edge_at : (low : ℕ) (rs : List Run) (i : ℕ) (d : Run) → i < length rs → edge low (take (suc i) rs) ≡ suc (get_or rs i d).last
edge_at low [] i d h = absurd (omega arith)
edge_at low (r ∷ rs) zero d h = refl
edge_at low (r ∷ rs) (suc i) d h = edge_at (suc r.last) rs i d (le_of_suc-le-suc h)

pub rising_take : (low : ℕ) (rs : List Run) (i : ℕ) → Rising low rs → Rising low (take i rs)
rising_take low rs zero g = tt
rising_take low [] (suc i) g = tt
rising_take low (r ∷ rs) (suc i) g = (g.0, g.1, rising_take (r.last + 2) rs i g.2)

pub highest_last : (rs : List Run) (i : ℕ) (d : Run) → suc i ≡ length rs → highest rs ≡ (get_or rs i d).last
highest_last [] i d h = absurd (omega arith)
highest_last (r ∷ []) zero d h = refl
highest_last (r ∷ []) (suc i) d h = absurd (omega arith)
highest_last (r ∷ (s ∷ rs)) zero d h = absurd (omega arith)
highest_last (r ∷ (s ∷ rs)) (suc i) d h = highest_last (s ∷ rs) i d (omega arith)

-- the highest number lies in the runs, and no number above it does
pub highest_covered : (low : ℕ) (rs : List Run) → Rising low rs → 0 < highest rs → covers rs (highest rs) ≡ true
highest_covered low [] g h = absurd (omega arith)
highest_covered low (r ∷ []) g h = or_left _ _ (within_in r.last r g.1 (omega arith))
highest_covered low (r ∷ (s ∷ rs)) g h = or_right (within (highest (s ∷ rs)) r) _ (highest_covered (r.last + 2) (s ∷ rs) g.2 h)

pub highest_bounds : (low : ℕ) (rs : List Run) (n : ℕ) → Rising low rs → covers rs n ≡ true → n ≤ highest rs
highest_bounds low [] n g h = absurd (both_ways _ refl h)
highest_bounds low (r ∷ []) n g h =
    ⊎_elim
    (λ here. let p = within_parts n r here in omega arith)
    (λ later. absurd (both_ways _ refl later))
    (or_cases (within n r) false h)
highest_bounds low (r ∷ (s ∷ rs)) n g h =
    ⊎_elim
    (λ here. let up = highest_above low r (s ∷ rs) g in let p = within_parts n r here in omega arith)
    (λ later. highest_bounds (r.last + 2) (s ∷ rs) n g.2 later)
    (or_cases (within n r) (covers (s ∷ rs) n) h)
