-- A plain number text is what std writes of a number, `decimal n`. Assumes nothing.
use Rattle.std.proofs.Common.{◌≡◌, ℕ, ◌^◌, ◌<◌, ◌≤◌, List, length, get_or, decimal, sym, ap, ◌∙◌, subst, ⊎_elim, arith}
use Rattle.std.proofs.lemmas.Fmt.{decimal_digit, decimal_nonempty, length-decimal-le, digits_decimal, first_decimal, digits_value-decimal, decimal-digits_value}
use Rattle.std.proofs.lemmas.Bool.{cases_lt}
use Rattle.std.proofs.Math.Nat.{pow-le-pow_right}
use Rattle.decimal.specs.Decimal.{fixed, value, PlainText}
use Rattle.decimal.proofs.Values.{numerals, value_below}
use Rattle.decimal.proofs.Widths.{fixed_value}

-- a leading '0' is all of the text of 0
lead_decimal : (n : ℕ) → n < 2 ^ 64 → get_or (decimal n) 0 0 ≡ 48 → length (decimal n) ≡ 1
lead_decimal n h e =
    ⊎_elim
    (λ some. absurd (omega (arith, first_decimal n some h)))
    (λ none. ap length (decimal_digit n (omega arith)))
    (cases_lt 0 n)

pub plain_decimal : (n : ℕ) → n < 2 ^ 64 → PlainText (decimal n)
plain_decimal n h = record { some = decimal_nonempty n h; digits = digits_decimal numerals n h; lead = lead_decimal n h }

pub value_plain : (n : ℕ) → n < 2 ^ 64 → value (decimal n) ≡ n
value_plain n h = digits_value-decimal numerals n h

pub decimal_plain : (bytes : List ℕ) → PlainText bytes → value bytes < 2 ^ 64 → decimal (value bytes) ≡ bytes
decimal_plain bytes t h = decimal-digits_value numerals bytes t.digits t.some t.lead h

-- the plain text of a number is its fixed text, at its own width
pub plain_fixed : (n : ℕ) → n < 2 ^ 64 → fixed (length (decimal n)) n ≡ decimal n
plain_fixed n h = ap (fixed (length (decimal n))) (sym (value_plain n h)) ∙ fixed_value (decimal n) (digits_decimal numerals n h)

-- a number from a power of ten on has more digits than that power has zeros
pub length_least : (k n : ℕ) → 10 ^ k ≤ n → n < 2 ^ 64 → k < length (decimal n)
length_least k n low h =
    ⊎_elim
    (λ more. more)
    (λ few.
    let digits = decimal n in
    let below : n < 10 ^ length digits = subst (λ m. m < 10 ^ length digits) (value_plain n h) (value_below digits (digits_decimal numerals n h)) in
    let power : 10 ^ length digits ≤ 10 ^ k = pow-le-pow_right (omega arith) few in
    absurd (omega arith))
    (cases_lt k (length (decimal n)))

-- a number of 64 bits has at most 20 digits
pub length_most : (n : ℕ) → n < 2 ^ 64 → length (decimal n) ≤ 20
length_most n h = length-decimal-le 20 n (omega arith) (omega arith) h
