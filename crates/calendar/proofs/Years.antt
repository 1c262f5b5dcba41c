-- The days of the years 2000 to 2099. All that is used of a month's length is tested here. Assumes nothing.
use Rattle.std.proofs.Common.{◌≡◌, ℕ, zero, suc, ◌+◌, ◌-◌, ◌*◌, ◌/◌, ◌<◌, ◌≤◌, Bool, eqb, leb, sym, refl, ap, ◌∙◌, arith}
use Rattle.std.proofs.lemmas.Bool.{eqb-true, leb-true}
use Rattle.calendar.specs.Calendar.{month_length, sum, year_length, days_before_year}
use Rattle.calendar.proofs.Table.{every, at}

abbrev short : ℕ → ℕ → Bool
short k i = leb (month_length (2000 + k) (i + 1)) 31

-- no month has more than 31 days
pub month_short : (year month : ℕ) → 2000 ≤ year → year ≤ 2099 → 1 ≤ month → month ≤ 12 → month_length year month ≤ 31
unfolding month_length
month_short year month from to first last =
    let y : 2000 + (year - 2000) ≡ year = omega arith in
    let m : month - 1 + 1 ≡ month = omega arith in
    let tested = at (short (year - 2000)) 12 (at (λ k. every (short k) 12) 100 refl (year - 2000) (omega arith)) (month - 1) (omega arith) in
    leb-true (month_length year month) 31 (rw (y, m) at tested)

-- the days of the first k years: a quarter of 1461 to each, rounded up
abbrev pub quarters : ℕ → ℕ
quarters k = (k * 1461 + 3) / 4

abbrev right : ℕ → Bool
right k = eqb (quarters k + year_length (2000 + k)) (quarters (k + 1))

one_year : (k : ℕ) → k < 100 → quarters k + year_length (2000 + k) ≡ quarters (k + 1)
unfolding month_length sum
one_year k h = eqb-true (quarters k + year_length (2000 + k)) (quarters (k + 1)) (at right 100 refl k h)

first_years : (k : ℕ) → k ≤ 100 → sum (λ i. year_length (2000 + i)) k ≡ quarters k
unfolding sum
first_years zero h = refl
first_years (suc k) h =
    let next : quarters (suc k) ≡ quarters (k + 1) = omega arith in
    omega (arith, first_years k (omega arith), one_year k (omega arith), next)

pub days_before_year_is : (year : ℕ) → 2000 ≤ year → year ≤ 2100 → days_before_year year ≡ quarters (year - 2000)
days_before_year_is year from to = first_years (year - 2000) (omega arith)

pub year_length_is : (year : ℕ) → 2000 ≤ year → year ≤ 2099 → quarters (year - 2000) + year_length year ≡ quarters (year - 2000 + 1)
year_length_is year from to =
    let back : 2000 + (year - 2000) ≡ year = omega arith in
    ap (λ y. quarters (year - 2000) + year_length y) (sym back) ∙ one_year (year - 2000) (omega arith)

-- the year of a day
abbrev pub year_at : ℕ → ℕ
year_at day = 2000 + day * 4 / 1461

pub year_found : (day : ℕ) → day < 36_525 → (year_at day ≤ 2099) × (days_before_year (year_at day) ≤ day) × (day - days_before_year (year_at day) < year_length (year_at day))
year_found day within =
    let to : year_at day ≤ 2099 = omega arith in
    let before = days_before_year_is (year_at day) (omega arith) (omega arith) in
    let long = year_length_is (year_at day) (omega arith) to in
    (to, omega arith, omega arith)
