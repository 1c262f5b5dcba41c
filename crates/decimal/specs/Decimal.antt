-- Decimal numbers as bytes. Assumes nothing.
use Rattle.std.specs.Prelude.{◌≡◌, ℕ, zero, suc, ◌+◌, ◌-◌, ◌*◌, ◌/◌, ◌%◌, ◌^◌, ◌<◌, ◌≤◌, List, [], ◌∷◌, length, slice_index, slice_index_or}

-- a digit is a byte from '0' to '9'
abbrev pub Digit : ℕ → Type 0
Digit b = (48 ≤ b) × (b ≤ 57)

-- each byte is a digit
abbrev pub AllDigits : List ℕ → Type 0
AllDigits bytes = (i : ℕ) → i < length bytes → Digit (slice_index bytes i)

-- the number that digits write, after those of n
abbrev pub value_after : ℕ → List ℕ → ℕ
value_after n [] = n
value_after n (b ∷ bytes) = value_after (n * 10 + (b - 48)) bytes

-- the number that digits write
abbrev pub value : List ℕ → ℕ
value bytes = value_after 0 bytes

-- the last w digits of n, the most significant first: `fixed 4 17` is "0017"
unfoldable pub fixed : ℕ → ℕ → List ℕ
fixed zero n = []
fixed (suc w) n = (48 + n / 10 ^ w % 10) ∷ fixed w n

-- the bytes are all of n, in 1 to 18 digits
pub record FixedText (bytes : List ℕ) (n : ℕ) : Type 0 where
  pub some : 0 < length bytes
  pub short : length bytes ≤ 18
  pub below : n < 10 ^ length bytes
  pub written : bytes ≡ fixed (length bytes) n

-- the bytes are a number as it is usually written: digits, with a leading '0' only where it is the only digit
pub record PlainText (bytes : List ℕ) : Type 0 where
  pub some : 0 < length bytes
  pub digits : AllDigits bytes
  pub lead : slice_index_or bytes 0 0 ≡ 48 → length bytes ≡ 1
