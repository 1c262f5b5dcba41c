-- The laws of `fixed`, the last digits of a number. Assumes nothing.
use Rattle.std.proofs.Common.{◌≡◌, ℕ, zero, suc, ◌+◌, ◌-◌, ◌*◌, ◌/◌, ◌%◌, ◌^◌, ◌<◌, ◌≤◌, min, List, ◌∷◌, length, drop, set, Some, None, Option, sym, refl, ap, ◌∙◌, subst, le_of_suc-le-suc, mod-eq_of_lt, mul_assoc, add-mul, pow-suc, div-one, arith, length-set, MatchOption}
use native.Mathlib.Nat.{pow-succ', div-div-eq-div-mul}
use lib.Arith.{mod-mul}
use Rattle.std.proofs.lemmas.List.{drop_all, drop-set}
use Rattle.std.proofs.lemmas.Str.Parse.{digits_value_short}
use Rattle.decimal.specs.Decimal.{AllDigits, value_after, value, fixed, FixedText}
use Rattle.decimal.proofs.Values.{numerals, power_some, value_below, same_from_value}

pub length_fixed : (w n : ℕ) → length (fixed w n) ≡ w
unfolding fixed
length_fixed zero n = refl
length_fixed (suc w) n = ap suc (length_fixed w n)

pub digits_fixed : (w n : ℕ) → AllDigits (fixed w n)
unfolding fixed
digits_fixed zero n i h = absurd (omega arith)
digits_fixed (suc w) n zero h = (omega arith, omega arith)
digits_fixed (suc w) n (suc i) h = digits_fixed w n i (le_of_suc-le-suc h)

value_after_fixed : (m w n : ℕ) → value_after m (fixed w n) ≡ m * 10 ^ w + n % 10 ^ w
unfolding fixed
value_after_fixed m zero n = omega arith
value_after_fixed m (suc w) n =
    let p = 10 ^ w in
    let d = n / p % 10 in
    let digit : 48 + d - 48 ≡ d = omega arith in
    let front : (m * 10 + d) * p ≡ m * 10 ^ suc w + d * p = add-mul (m * 10) d p ∙ ap (λ x. x + d * p) (mul_assoc m 10 p ∙ ap (λ x. m * x) (sym (pow-succ' 10 w))) in
    let last : n % 10 ^ suc w ≡ d * p + n % p = ap (λ x. n % x) (pow-succ' 10 w) ∙ mod-mul n (omega arith) (power_some w) in
    ap (λ x. value_after (m * 10 + x) (fixed w n)) digit ∙ value_after_fixed (m * 10 + d) w n ∙ omega (arith, front, last)

-- w digits write the number modulo 10 ^ w
pub value_fixed : (w n : ℕ) → value (fixed w n) ≡ n % 10 ^ w
value_fixed w n = omega (arith, value_after_fixed 0 w n)

pub value_fixed_below : (w n : ℕ) → n < 10 ^ w → value (fixed w n) ≡ n
value_fixed_below w n h = value_fixed w n ∙ mod-eq_of_lt h

-- digits are the fixed text of the number that they write
pub fixed_value : (bytes : List ℕ) → AllDigits bytes → fixed (length bytes) (value bytes) ≡ bytes
fixed_value bytes h =
    same_from_value (fixed (length bytes) (value bytes)) bytes (digits_fixed (length bytes) (value bytes)) h (length_fixed (length bytes) (value bytes))
    (value_fixed_below (length bytes) (value bytes) (value_below bytes h))

-- numbers below 10 ^ w with the same text are the same
pub same_from_fixed : (w m n : ℕ) → m < 10 ^ w → n < 10 ^ w → fixed w m ≡ fixed w n → m ≡ n
same_from_fixed w m n g h e = sym (value_fixed_below w m g) ∙ ap value e ∙ value_fixed_below w n h

-- the bytes of a fixed text are digits, and write its number
pub digits_from_text : (bytes : List ℕ) (n : ℕ) → FixedText bytes n → AllDigits bytes
digits_from_text bytes n t = subst AllDigits (sym t.written) (digits_fixed (length bytes) n)

pub value_from_text : (bytes : List ℕ) (n : ℕ) → FixedText bytes n → value bytes ≡ n
value_from_text bytes n t = ap value t.written ∙ value_fixed_below (length bytes) n t.below

-- 1 to 18 digits are the fixed text of the number that they write
pub text_from_digits : (bytes : List ℕ) → 0 < length bytes → length bytes ≤ 18 → AllDigits bytes → FixedText bytes (value bytes)
text_from_digits bytes some short h = record { some = some; short = short; below = value_below bytes h; written = sym (fixed_value bytes h) }

-- the fixed text of a number of a known width, both ways
pub text_of_width : (w n : ℕ) → 0 < w → w ≤ 18 → n < 10 ^ w → FixedText (fixed w n) n
text_of_width w n some short below =
    let long = length_fixed w n in
    record { some = omega arith; short = omega arith; below = rw long below; written = ap (λ k. fixed k n) (sym long) }

pub width_of_text : (w : ℕ) (bytes : List ℕ) (n : ℕ) → length bytes ≡ w → FixedText bytes n → (n < 10 ^ w) × (bytes ≡ fixed w n)
width_of_text w bytes n long t = (subst (λ k. n < 10 ^ k) long t.below, t.written ∙ ap (λ k. fixed k n) long)

-- what reading the digits says of the fixed text, of the right length
pub text_cases : (bytes : List ℕ) (r : Option ℕ) → 0 < length bytes → length bytes ≤ 18 → MatchOption r (AllDigits bytes → ⊥) (λ n. AllDigits bytes × (n ≡ min (value bytes) (2 ^ 64 - 1))) → MatchOption r ((n : ℕ) → FixedText bytes n → ⊥) (FixedText bytes)
text_cases bytes None some short h = λ n t. h (digits_from_text bytes n t)
text_cases bytes (Some n) some short h =
    let below : value bytes < 10 ^ 18 = digits_value_short numerals bytes 18 h.0 short in
    let is : value bytes ≡ n = omega arith in
    subst (FixedText bytes) is (text_from_digits bytes some short h.0)

-- from i on the digits of n are written, and rest is the part of n that is not written yet
abbrev pub Written : List ℕ → ℕ → ℕ → ℕ → Type 0
Written out i n rest = (drop i out ≡ fixed (length out - i) n) × (rest ≡ n / 10 ^ (length out - i))

pub written_none : (out : List ℕ) (n : ℕ) → Written out (length out) n n
unfolding fixed
written_none out n =
    let none : length out - length out ≡ 0 = omega arith in
    (drop_all (length out) out (omega arith) ∙ sym (ap (λ w. fixed w n) none), sym (div-one n) ∙ ap (λ w. n / 10 ^ w) (sym none))

-- one digit more, in front
pub written_more : (out : List ℕ) (i n rest : ℕ) → 0 < i → i ≤ length out → Written out i n rest → Written (set out (i - 1) (48 + rest % 10)) (i - 1) n (rest / 10)
unfolding fixed
written_more out i n rest some within h =
    let w = length out - i in
    let digit = 48 + rest % 10 in
    let wide : suc w ≡ length (set out (i - 1) digit) - (i - 1) = simp length-set (omega arith) in
    let back : i - 1 + 1 ≡ i = omega arith in
    let front : digit ≡ 48 + n / 10 ^ w % 10 = ap (λ x. 48 + x % 10) h.1 in
    let more : drop (i - 1) (set out (i - 1) digit) ≡ digit ∷ drop i out = drop-set out (i - 1) digit (omega arith) ∙ ap (λ k. digit ∷ drop k out) back in
    let less : rest / 10 ≡ n / 10 ^ suc w = ap (λ x. x / 10) h.1 ∙ div-div-eq-div-mul n (10 ^ w) 10 ∙ ap (λ x. n / x) (sym (pow-suc 10 w)) in
    (more ∙ (λ j. front j ∷ h.0 j) ∙ ap (λ v. fixed v n) wide, less ∙ ap (λ v. n / 10 ^ v) wide)
