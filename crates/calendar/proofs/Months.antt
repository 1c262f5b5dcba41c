-- The months of a year, one after the other. Assumes nothing.
use Rattle.std.proofs.Common.{◌≡◌, ℕ, suc, ◌+◌, ◌-◌, ◌≤◌, refl, ap, ◌∙◌, arith}
use Rattle.calendar.specs.Calendar.{month_length, sum, days_before_month}
use Rattle.calendar.proofs.Sums.{sum_more}

pub months_none : (year : ℕ) → days_before_month year 1 ≡ 0
unfolding sum
months_none year = refl

-- one month more
pub months_more : (year month : ℕ) → 1 ≤ month → days_before_month year (month + 1) ≡ days_before_month year month + month_length year month
months_more year month h =
    let f = λ (i : ℕ). month_length year (i + 1) in
    let next : month + 1 - 1 ≡ suc (month - 1) = omega arith in
    let back : month - 1 + 1 ≡ month = omega arith in
    ap (sum f) next ∙ sum_more f (month - 1) ∙ ap (λ m. sum f (month - 1) + month_length year m) back
