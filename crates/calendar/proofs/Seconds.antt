-- A second is that of one lawful civil time at most. Assumes nothing.
use Rattle.std.proofs.Common.{◌≡◌, ℕ, ◌+◌, ◌-◌, ◌*◌, ◌/◌, ◌%◌, ◌<◌, ◌≤◌, sym, ap, ◌∙◌, subst, arith}
use lib.Arith.{digits_div, digits_mod}
use Rattle.calendar.specs.declared.Civil.{Civil}
use Rattle.calendar.specs.Calendar.{month_length, days_before_month, year_length, Lawful, day_of, second_of, last_second}
use Rattle.calendar.proofs.Sums.{sum_below, sum_once}
use Rattle.calendar.proofs.Years.{days_before_year_is, year_length_is}

-- the day of the month, counted from 0, is within the month
in_month : (c : Civil) → Lawful c → c.day - 1 < month_length c.year (c.month - 1 + 1)
in_month c l =
    let back : c.month - 1 + 1 ≡ c.month = omega arith in
    subst (λ m. c.day - 1 < month_length c.year m) (sym back) (omega arith)

-- the day of the year, counted from 0, is within the year
pub in_year : (c : Civil) → Lawful c → days_before_month c.year c.month + (c.day - 1) < year_length c.year
in_year c l = sum_below (λ i. month_length c.year (i + 1)) (c.month - 1) 12 (c.day - 1) (omega arith) (in_month c l)

in_its_year : (c : Civil) → Lawful c → days_before_month c.year c.month + (c.day - 1) < year_length (2000 + (c.year - 2000))
in_its_year c l = let back : 2000 + (c.year - 2000) ≡ c.year = omega arith in rw back (in_year c l)

pub day_within : (c : Civil) → Lawful c → day_of c < 36_525
day_within c l =
    omega (arith, in_year c l, days_before_year_is c.year l.year_from (omega arith), year_length_is c.year l.year_from l.year_to)

pub second_within : (c : Civil) → Lawful c → second_of c ≤ last_second
second_within c l = omega (arith, day_within c l)

same_digits : (m q r p s : ℕ) → r < m → s < m → q * m + r ≡ p * m + s → (q ≡ p) × (r ≡ s)
same_digits m q r p s g h e =
    (sym (digits_div q g) ∙ ap (λ n. n / m) e ∙ digits_div p h, sym (digits_mod q g) ∙ ap (λ n. n % m) e ∙ digits_mod p h)

same_day : (c d : Civil) → Lawful c → Lawful d → day_of c ≡ day_of d → (c.year ≡ d.year) × (c.month ≡ d.month) × (c.day ≡ d.day)
same_day c d l k e =
    let years = sum_once (λ i. year_length (2000 + i)) (c.year - 2000) (d.year - 2000) _ _ (in_its_year c l) (in_its_year d k) e in
    let year : c.year ≡ d.year = omega arith in
    let month = λ (y i : ℕ). month_length y (i + 1) in
    let here : c.day - 1 < month d.year (c.month - 1) = rw year at (in_month c l) in
    let months = sum_once (month d.year) (c.month - 1) (d.month - 1) (c.day - 1) (d.day - 1) here (in_month d k) (rw year at years.1) in
    (year, omega arith, omega arith)

pub same_from_second : (c d : Civil) → Lawful c → Lawful d → second_of c ≡ second_of d → c ≡ d
same_from_second c d l k e =
    let seconds = same_digits 60 ((day_of c * 24 + c.hour) * 60 + c.minute) c.second ((day_of d * 24 + d.hour) * 60 + d.minute) d.second (omega arith) (omega arith) e in
    let minutes = same_digits 60 (day_of c * 24 + c.hour) c.minute (day_of d * 24 + d.hour) d.minute (omega arith) (omega arith) seconds.0 in
    let hours = same_digits 24 (day_of c) c.hour (day_of d) d.hour (omega arith) (omega arith) minutes.0 in
    let date = same_day c d l k hours.0 in
    λ i. record { year = date.0 i; month = date.1 i; day = date.2 i; hour = hours.1 i; minute = minutes.1 i; second = seconds.1 i }
