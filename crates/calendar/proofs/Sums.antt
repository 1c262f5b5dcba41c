-- Sums of the first values of a function: a number below the whole sum falls into one value, at one place of it. Assumes nothing.
use Rattle.std.proofs.Common.{◌≡◌, ℕ, zero, suc, ◌+◌, ◌<◌, ◌≤◌, refl, ap, ⊎_elim, arith}
use Rattle.std.proofs.lemmas.Bool.{cases_eq, cases_order}
use Rattle.calendar.specs.Calendar.{sum}

pub sum_more : (f : ℕ → ℕ) (n : ℕ) → sum f (suc n) ≡ sum f n + f n
unfolding sum
sum_more f n = refl

pub sum_rises : (f : ℕ → ℕ) (m n : ℕ) → m ≤ n → sum f m ≤ sum f n
unfolding sum
sum_rises f m zero h = let none : m ≡ 0 = omega arith in omega (arith, ap (sum f) none)
sum_rises f m (suc n) h =
    ⊎_elim
    (λ same. omega (arith, ap (sum f) same))
    (λ other. let less : m ≤ n = omega arith in omega (arith, sum_rises f m n less))
    (cases_eq m (suc n))

-- x falls into the value at a, which is among the first n
pub sum_below : (f : ℕ → ℕ) (a n x : ℕ) → a < n → x < f a → sum f a + x < sum f n
sum_below f a n x h l = omega (arith, sum_more f a, sum_rises f (suc a) n h)

pub sum_once : (f : ℕ → ℕ) (a b x y : ℕ) → x < f a → y < f b → sum f a + x ≡ sum f b + y → (a ≡ b) × (x ≡ y)
sum_once f a b x y g h e =
    ⊎_elim
    (λ same. (same, omega (arith, ap (sum f) same)))
    (⊎_elim (λ less. absurd (omega (arith, sum_below f a b x less g))) (λ more. absurd (omega (arith, sum_below f b a y more h))))
    (cases_order a b)
