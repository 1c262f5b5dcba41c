-- What the number that digits write comes to. Assumes nothing.
use Rattle.std.proofs.Common.{◌≡◌, ℕ, suc, ◌+◌, ◌-◌, ◌*◌, ◌/◌, ◌%◌, ◌^◌, ◌<◌, min, List, [], ◌∷◌, ◌++◌, length, get_or, take, sym, refl, ap, ◌∙◌, suc-le-suc, mul_assoc, mul_comm, add-mul, pow-suc, arith}
use native.Mathlib.Nat.{one-le-pow}
use lib.Arith.{digits_div, digits_mod}
use Rattle.std.proofs.lemmas.List.{take_more}
use Rattle.std.proofs.lemmas.Str.Parse.{IsNumeralModel, numerals_by_fold, tells_by_index, digits_value_short}
use Rattle.decimal.specs.Decimal.{AllDigits, value_after, value}

-- the words of this crate are those of std's reading and writing of numbers
pub numerals : IsNumeralModel AllDigits value
numerals = numerals_by_fold AllDigits tells_by_index value_after (record { empty = λ n. refl; more = λ n c cs h. refl })

pub power_some : (k : ℕ) → 0 < 10 ^ k
power_some k = one-le-pow k 10 (omega arith)

-- as many digits write a number below that power of ten
pub value_below : (bytes : List ℕ) → AllDigits bytes → value bytes < 10 ^ length bytes
value_below bytes h = digits_value_short numerals bytes (length bytes) h (omega arith)

-- the digits in front count as many tens as there are digits after them
pub value_after_is : (n : ℕ) (bytes : List ℕ) → value_after n bytes ≡ n * 10 ^ length bytes + value bytes
value_after_is n [] = omega arith
value_after_is n (b ∷ bytes) =
    let p = 10 ^ length bytes in
    let d = b - 48 in
    let front : (n * 10 + d) * p ≡ n * (p * 10) + d * p = add-mul (n * 10) d p ∙ ap (λ x. x + d * p) (mul_assoc n 10 p ∙ ap (λ x. n * x) (mul_comm 10 p)) in
    let power : n * 10 ^ suc (length bytes) ≡ n * (p * 10) = ap (λ x. n * x) (pow-suc 10 (length bytes)) in
    let zero-front : (0 * 10 + d) * p ≡ d * p = ap (λ x. x * p) (omega arith) in
    omega (arith, value_after_is (n * 10 + d) bytes, value_after_is (0 * 10 + d) bytes, front, power, zero-front)

pub value_after_append : (n : ℕ) (xs ys : List ℕ) → value_after n (xs ++ ys) ≡ value_after (value_after n xs) ys
value_after_append n [] ys = refl
value_after_append n (x ∷ xs) ys = value_after_append (n * 10 + (x - 48)) xs ys

-- one digit more
pub value_more : (bytes : List ℕ) (i : ℕ) → i < length bytes → value (take (i + 1) bytes) ≡ value (take i bytes) * 10 + (get_or bytes i 0 - 48)
value_more bytes i h = ap value (take_more bytes i 0 h) ∙ value_after_append 0 (take i bytes) (get_or bytes i 0 ∷ [])

-- the same of a number that is kept below 2 ^ 64
pub capped_more : (bytes : List ℕ) (i n : ℕ) → i < length bytes → n ≡ min (value (take i bytes)) (2 ^ 64 - 1) → min (min (n * 10) (2 ^ 64 - 1) + (get_or bytes i 0 - 48)) (2 ^ 64 - 1) ≡ min (value (take (i + 1) bytes)) (2 ^ 64 - 1)
capped_more bytes i n h e = omega (arith, value_more bytes i h)

-- equally many digits that write the same number are the same
pub same_from_value : (xs ys : List ℕ) → AllDigits xs → AllDigits ys → length xs ≡ length ys → value xs ≡ value ys → xs ≡ ys
same_from_value [] [] g h long e = refl
same_from_value [] (y ∷ ys) g h long e = absurd (omega arith)
same_from_value (x ∷ xs) [] g h long e = absurd (omega arith)
same_from_value (x ∷ xs) (y ∷ ys) g h long e =
    let g' : AllDigits xs = λ i l. g (suc i) (suc-le-suc l) in
    let h' : AllDigits ys = λ i l. h (suc i) (suc-le-suc l) in
    let p = 10 ^ length xs in
    let same : length ys ≡ length xs = omega arith in
    let low : value ys < p = rw same at (value_below ys h') in
    let left : value (x ∷ xs) ≡ (x - 48) * p + value xs = value_after_is (0 * 10 + (x - 48)) xs ∙ ap (λ n. n * p + value xs) (omega arith) in
    let right : value (y ∷ ys) ≡ (y - 48) * p + value ys = value_after_is (0 * 10 + (y - 48)) ys ∙ ap (λ n. n * 10 ^ length ys + value ys) (omega arith) ∙ ap (λ k. (y - 48) * 10 ^ k + value ys) same in
    let whole = sym left ∙ e ∙ right in
    let first : x - 48 ≡ y - 48 = sym (digits_div (x - 48) (value_below xs g')) ∙ ap (λ n. n / p) whole ∙ digits_div (y - 48) low in
    let rest : value xs ≡ value ys = sym (digits_mod (x - 48) (value_below xs g')) ∙ ap (λ n. n % p) whole ∙ digits_mod (y - 48) low in
    let head : x ≡ y = omega (arith, g 0 (omega arith), h 0 (omega arith)) in
    let tail = same_from_value xs ys g' h' (omega arith) rest in
    λ i. head i ∷ tail i
