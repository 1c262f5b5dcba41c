-- A rule at each number below n, by one test that antt computes. Assumes nothing.
use Rattle.std.proofs.Common.{◌≡◌, ℕ, zero, suc, ◌<◌, Bool, true, ◌&&◌, sym, subst, ⊎_elim, arith}
use Rattle.std.proofs.lemmas.Bool.{and_parts, cases_eq}

abbrev pub every : (ℕ → Bool) → ℕ → Bool
every f zero = true
every f (suc n) = f n && every f n

pub at : (f : ℕ → Bool) (n : ℕ) → every f n ≡ true → (k : ℕ) → k < n → f k ≡ true
at f zero e k h = absurd (omega arith)
at f (suc n) e k h =
    let p = and_parts (f n) (every f n) e in
    ⊎_elim (λ same. subst (λ m. f m ≡ true) (sym same) p.0) (λ other. at f n p.1 k (omega arith)) (cases_eq k n)
