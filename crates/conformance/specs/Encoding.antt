-- Texts as a table writes them: by characters that stand for themselves, %HH and %*NNNNc. Assumes nothing.
use Rattle.std.specs.Prelude.{◌≡◌, ℕ, ◌+◌, ◌-◌, ◌*◌, ◌<◌, ◌≤◌, ◌⊎◌, List, [], ◌++◌, length, take, drop, replicate, slice_index, slice_index_or}
use Rattle.conformance.specs.declared.piece.Piece.{Piece}
use Rattle.decimal.specs.Decimal.{FixedText}

-- a character that stands for itself: from space to '~', but for '%'
pub record Plain (b : ℕ) : Type 0 where
  pub from : 32 ≤ b
  pub to : b ≤ 126
  pub other : b ≡ 37 → ⊥

-- b is the hexadecimal digit of v: '0' to '9', or 'A' to 'F'
abbrev pub HexDigit : ℕ → ℕ → Type 0
HexDigit b v = ((48 ≤ b) × (b ≤ 57) × (v ≡ b - 48)) ⊎ ((65 ≤ b) × (b ≤ 70) × (v ≡ b - 55))

-- the written text begins with a character that stands for itself
pub record Itself (w : List ℕ) (p : Piece) : Type 0 where
  pub long : 1 ≤ length w
  pub plain : Plain (slice_index w 0)
  pub byte : p.byte ≡ slice_index w 0
  pub times : p.times ≡ 1
  pub width : p.width ≡ 1

-- it begins with %HH
pub record Hexadecimal (w : List ℕ) (p : Piece) : Type 0 where
  pub long : 3 ≤ length w
  pub sign : slice_index_or w 0 0 ≡ 37
  pub high : ℕ
  pub low : ℕ
  pub high_is : HexDigit (slice_index w 1) high
  pub low_is : HexDigit (slice_index w 2) low
  pub byte : p.byte ≡ high * 16 + low
  pub times : p.times ≡ 1
  pub width : p.width ≡ 3

-- it begins with %*NNNNc
pub record Repeated (w : List ℕ) (p : Piece) : Type 0 where
  pub long : 7 ≤ length w
  pub sign : slice_index_or w 0 0 ≡ 37
  pub star : slice_index_or w 1 0 ≡ 42
  pub plain : Plain (slice_index w 6)
  pub byte : p.byte ≡ slice_index w 6
  pub times : FixedText (take 4 (drop 2 w)) p.times
  pub width : p.width ≡ 7

-- what it begins with
abbrev pub IsPiece : List ℕ → Piece → Type 0
IsPiece w p = Itself w p ⊎ (Hexadecimal w p ⊎ Repeated w p)

-- the piece is not empty, and within the written text
pub record Wide (w : List ℕ) (p : Piece) : Type 0 where
  pub some : 0 < p.width
  pub within : p.width ≤ length w

-- the bytes that a piece stands for
abbrev pub bytes_of : Piece → List ℕ
bytes_of p = replicate p.times p.byte

-- the bytes have got those of the piece at their end
abbrev pub Gains : List ℕ → Piece → List ℕ → Type 0
Gains old p new = new ≡ old ++ bytes_of p

-- w writes the text t: piece by piece, up to the end
pub data Writes : List ℕ → List ℕ → Type 0 where
  nothing : Writes [] []
  piece : {w rest : List ℕ} (p : Piece) → IsPiece w p → Writes (drop p.width w) rest → Writes w (bytes_of p ++ rest)

-- w writes no text
abbrev pub NoText : List ℕ → Type 0
NoText w = (t : List ℕ) → Writes w t → ⊥
