-- The maximal stretches are one list, and counting up finds it. Assumes nothing.
use Rattle.std.proofs.Common.{◌≡◌, ℕ, zero, suc, ◌+◌, ◌<◌, ◌≤◌, Bool, true, false, cond, ◌&&◌, ◌||◌, eqb, leb, List, [], ◌∷◌, sym, refl, ap, ◌∙◌, subst, ⊎_elim, arith}
use Rattle.std.proofs.lemmas.Bool.{le-leb, or_left, or_from, both_ways, cases_lt, cases_order, cond_both, eqb-true, eqb-false}
use Rattle.runs.proofs.Ascends.{Rising, rising_from, within_in, within_after, covers_past, covers_below, stretches_exact, covers_is, rising_weaker}
use Rattle.runs.specs.Stretches.{within, covers, in_front, stretches_from, stretches, CountedOut, Unique}
use Rattle.runs.specs.declared.run.Run.{Run}

-- what lies in the runs begins no later than the first of other runs with the same numbers
first_le : (low : ℕ) (r q : Run) (rs qs : List Run) → Rising low (r ∷ rs) → Rising low (q ∷ qs) → ((n : ℕ) → low ≤ n → covers (r ∷ rs) n ≡ covers (q ∷ qs) n) → q.first ≤ r.first
first_le low r q rs qs g h same =
    ⊎_elim
    (λ less. absurd (both_ways _ (same r.first (omega arith) ∙ covers_below q.first r.first (q ∷ qs) (omega arith, h.1, h.2) less) (or_left _ _ (within_in r.first r (omega arith) g.1))))
    (λ more. more)
    (cases_lt r.first q.first)

-- and two first runs that begin together end together
last_le : (low : ℕ) (r q : Run) (rs qs : List Run) → Rising low (r ∷ rs) → Rising low (q ∷ qs) → ((n : ℕ) → low ≤ n → covers (r ∷ rs) n ≡ covers (q ∷ qs) n) → q.first ≤ r.first → q.last ≤ r.last
last_le low r q rs qs g h same before =
    ⊎_elim
    (λ less. absurd (both_ways _ (sym (same (suc r.last) (omega arith)) ∙ covers_past (suc r.last) r rs (omega arith) ∙ covers_below (r.last + 2) (suc r.last) rs g.2 (omega arith)) (or_left _ _ (within_in (suc r.last) q (omega arith) less))))
    (λ more. more)
    (cases_lt r.last q.last)

unique_from : (low : ℕ) (rs qs : List Run) → Rising low rs → Rising low qs → ((n : ℕ) → low ≤ n → covers rs n ≡ covers qs n) → rs ≡ qs
unique_from low [] [] g h same = refl
unique_from low [] (q ∷ qs) g h same = absurd (both_ways _ (sym (same q.first h.0)) (or_left _ _ (within_in q.first q (omega arith) h.1)))
unique_from low (r ∷ rs) [] g h same = absurd (both_ways _ (same r.first g.0) (or_left _ _ (within_in r.first r (omega arith) g.1)))
unique_from low (r ∷ rs) (q ∷ qs) g h same =
    let back : (n : ℕ) → low ≤ n → covers (q ∷ qs) n ≡ covers (r ∷ rs) n = λ n k. sym (same n k) in
    let a = first_le low r q rs qs g h same in
    let b = first_le low q r qs rs h g back in
    let c = last_le low r q rs qs g h same a in
    let d = last_le low q r qs rs h g back b in
    let first : r.first ≡ q.first = omega arith in
    let last : r.last ≡ q.last = omega arith in
    let rest = unique_from (r.last + 2) rs qs g.2 (rising_weaker (q.last + 2) (r.last + 2) qs (omega arith) h.2) (λ n k. sym (covers_past n r rs (omega arith)) ∙ same n (omega arith) ∙ covers_past n q qs (omega arith)) in
    λ i. record { first = first i; last = last i } ∷ rest i

pub unique : Unique
unique passes rs qs s t = unique_from 0 rs qs (rising_from 0 rs s.rising) (rising_from 0 qs t.rising) (λ n _. covers_is passes rs s n ∙ sym (covers_is passes qs t n))

-- a number put in front of runs above it
front_rising : (low : ℕ) (rs : List Run) → Rising (suc low) rs → Rising low (in_front low rs)
front_rising low [] g = (omega arith, omega arith, tt)
front_rising low (r ∷ rs) g =
    cond_both (eqb r.first (suc low)) _ _ (Rising low)
    (λ e. (omega arith, omega (arith, eqb-true _ _ e), g.2))
    (λ e. let apart = eqb-false _ _ e in (omega arith, omega arith, (omega arith, g.1, g.2)))

-- it lies in them, and the numbers above as before
front_at : (low : ℕ) (rs : List Run) → Rising (suc low) rs → covers (in_front low rs) low ≡ true
front_at low [] g = or_left _ _ (within_in low _ (omega arith) (omega arith))
front_at low (r ∷ rs) g =
    cond_both (eqb r.first (suc low)) _ _ (λ l. covers l low ≡ true)
    (λ e. or_left _ _ (within_in low _ (omega arith) (omega arith)))
    (λ e. or_left _ _ (within_in low _ (omega arith) (omega arith)))

front_above : (low n : ℕ) (rs : List Run) → low < n → covers (in_front low rs) n ≡ covers rs n
front_above low n [] h = or_from _ _ (within_after n _ h) refl
front_above low n (r ∷ rs) h =
    cond_both (eqb r.first (suc low)) _ _ (λ l. covers l n ≡ covers (r ∷ rs) n)
    (λ e. ap (λ b. b || covers rs n) (lower e))
    (λ e. covers_past n _ (r ∷ rs) h)
  where
    lower : eqb r.first (suc low) ≡ true → within n (record { first = low; last = r.last }) ≡ within n r
    lower e = ap (λ b. b && leb n r.last) (le-leb low n (omega arith) ∙ sym (le-leb r.first n (omega (arith, eqb-true _ _ e))))

counted_rising : (passes : ℕ → Bool) (low k : ℕ) → Rising low (stretches_from passes low k)
counted_rising passes low zero = tt
counted_rising passes low (suc k) =
    let above = counted_rising passes (suc low) k in
    cond_both (passes low) _ _ (Rising low)
    (λ _. front_rising low _ above)
    (λ _. rising_weaker (suc low) low _ (omega arith) above)

counted_covers : (passes : ℕ → Bool) (low k n : ℕ) → ((m : ℕ) → low + k ≤ m → passes m ≡ false) → low ≤ n → covers (stretches_from passes low k) n ≡ passes n
counted_covers passes low zero n none h = sym (none n (omega arith))
counted_covers passes low (suc k) n none h =
    let above = stretches_from passes (suc low) k in
    let rising = counted_rising passes (suc low) k in
    let rest : low < n → covers above n ≡ passes n = λ l. counted_covers passes (suc low) k n (λ m g. none m (omega arith)) l in
    ⊎_elim
    (λ same. subst (λ m. covers (cond (passes low) (in_front low above) above) m ≡ passes m) same
    (cond_both (passes low) _ _ (λ l. covers l low ≡ passes low)
    (λ e. front_at low above rising ∙ sym e)
    (λ e. covers_below (suc low) low above rising (omega arith) ∙ sym e)))
    (⊎_elim
    (λ less. cond_both (passes low) _ _ (λ l. covers l n ≡ passes n) (λ _. front_above low n above less ∙ rest less) (λ _. rest less))
    (λ more. absurd (omega arith)))
    (cases_order low n)

pub counted_out : CountedOut
counted_out passes limit none = stretches_exact passes (stretches passes limit) (counted_rising passes 0 limit) (λ n. counted_covers passes 0 limit n (λ m h. none m (omega arith)) (omega arith))
