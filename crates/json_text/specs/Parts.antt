-- Where the parts of a JSON text end, by the next byte alone. Of bytes that begin with no such part they say nothing. Assumes nothing.
use Rattle.std.specs.Prelude.{◌≡◌, ℕ, suc, ◌<◌, Bool, true, cond, ◌||◌, List, [], ◌∷◌, ◌++◌, ◌==◌, slice_index}
use Rattle.json_text.specs.Beginnings.{Spot, deeper, past}
use Rattle.json_text.specs.Beginnings.Spot.{outside}
use Rattle.json_text.specs.Grammar.{Json, Value, plain, white}

-- what is left after white space
abbrev pub skip : List ℕ → List ℕ
skip [] = []
skip (b ∷ s) = cond (white b) (skip s) (b ∷ s)

-- what may follow a value: white space, a comma, the end of an array or an object
abbrev pub follow : ℕ → Bool
follow b = white b || (b == 44 || (b == 93 || b == 125))

-- what may follow a value, or nothing
pub data Follows : List ℕ → Type 0 where
  ends : Follows []
  goes_on : {b : ℕ} {s : List ℕ} → follow b ≡ true → Follows (b ∷ s)

-- how many bytes there are up to a byte that may follow a value
abbrev pub scalar_length : List ℕ → ℕ
scalar_length [] = 0
scalar_length (b ∷ s) = cond (follow b) 0 (suc (scalar_length s))

-- how many bytes there are up to the one that closes all that is open, and with it
abbrev pub closing : Spot → ℕ → List ℕ → ℕ
closing spot d [] = 0
closing spot d (b ∷ s) = cond (deeper spot d b == 0) 1 (suc (closing (past spot b) (deeper spot d b) s))

-- the first n bytes stand for themselves in a string
abbrev pub PlainTo : ℕ → List ℕ → Type 0
PlainTo n s = (i : ℕ) → i < n → plain (slice_index s i) ≡ true

-- how many bytes there are after an opening quote up to the closing one, and with it
unfoldable mutual
  pub string_length : List ℕ → ℕ
  string_length [] = 0
  string_length (b ∷ s) = cond (b == 34) 1 (suc (cond (b == 92) (escaped_length s) (string_length s)))

  pub escaped_length : List ℕ → ℕ
  escaped_length [] = 0
  escaped_length (b ∷ s) = suc (string_length s)

-- how long the value at the front is, by its first byte
abbrev pub value_length : List ℕ → ℕ
value_length [] = 0
value_length (b ∷ s) = cond (b == 34) (suc (string_length s)) (cond (b == 91 || b == 123) (closing outside 0 (b ∷ s)) (scalar_length (b ∷ s)))

-- the bytes begin with this value, and these are the two parts
pub record Split (s : List ℕ) (v r : List ℕ) : Type 0 where
  pub tree : Json
  pub whole : s ≡ v ++ r
  pub is : Value tree v
  pub on : Follows r
