-- A text cut at the first of a separating byte. Assumes nothing.
use Rattle.std.specs.Prelude.{◌≡◌, ℕ, ◌<◌, cond, ◌⊎◌, List, [], ◌∷◌, ◌++◌, length, ◌==◌, ◌≢◌, slice_index}

-- the bytes before the first separator: all of them where there is none
abbrev pub before : ℕ → List ℕ → List ℕ
before separator [] = []
before separator (b ∷ bs) = cond (b == separator) [] (b ∷ before separator bs)

-- the bytes after the first separator: none where there is none
abbrev pub after : ℕ → List ℕ → List ℕ
after separator [] = []
after separator (b ∷ bs) = cond (b == separator) bs (after separator bs)

-- the first n bytes are no separator
abbrev pub Free : ℕ → List ℕ → ℕ → Type 0
Free separator text n = (i : ℕ) → i < n → slice_index text i ≢ separator

-- front and back are the two sides of the first separator in the text, or the front is all of it
pub record Cut (separator : ℕ) (text front back : List ℕ) : Type 0 where
  pub parts : (text ≡ front ++ separator ∷ back) ⊎ ((text ≡ front) × (back ≡ []))
  pub clean : Free separator front (length front)
