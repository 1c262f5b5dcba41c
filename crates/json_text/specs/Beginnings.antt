-- Beginnings of JSON texts, and how deep they are nested. Assumes nothing.
use Rattle.std.specs.Prelude.{◌≡◌, ℕ, suc, pred, ◌<◌, ◌≤◌, cond, ◌||◌, List, [], ◌∷◌, ◌++◌, length, take, ◌==◌}
use Rattle.json_text.specs.Grammar.{Json, Text}

-- some bytes more make the bytes a JSON text
pub record Begins (bytes : List ℕ) : Type 0 where
  pub more : List ℕ
  pub tree : Json
  pub is : Text tree (bytes ++ more)

-- where a byte stands: outside strings, in one, or after a backslash in one
pub data Spot : Type 0 where
  outside : Spot
  inside : Spot
  escaped : Spot

-- where the next byte stands
abbrev pub past : Spot → ℕ → Spot
past outside b = cond (b == 34) inside outside
past inside b = cond (b == 34) outside (cond (b == 92) escaped inside)
past escaped b = inside

-- the depth after a byte outside strings: an opening bracket or brace adds one, a closing one takes one away
abbrev pub deeper : Spot → ℕ → ℕ → ℕ
deeper outside d b = cond (b == 91 || b == 123) (suc d) (cond (b == 93 || b == 125) (pred d) d)
deeper inside d b = d
deeper escaped d b = d

abbrev pub depth_from : Spot → ℕ → List ℕ → ℕ
depth_from spot d [] = d
depth_from spot d (b ∷ bs) = depth_from (past spot b) (deeper spot d b) bs

-- how many arrays and objects are open after the bytes
abbrev pub depth : List ℕ → ℕ
depth bytes = depth_from outside 0 bytes

abbrev pub deepest : ℕ
deepest = 8

-- a bracket or a brace, where it could stand, takes the depth past the deepest
pub record TooDeepAt (text : List ℕ) (n : ℕ) : Type 0 where
  pub within : n ≤ length text
  pub begins : Begins (take n text)
  pub deep : deepest < depth (take n text)

abbrev pub Deep : List ℕ → Type 0
Deep text = (n : ℕ) × TooDeepAt text n

-- the bytes are a JSON text
abbrev pub IsJson : List ℕ → Type 0
IsJson text = (tree : Json) × Text tree text

-- the bytes are a text of at most one value
abbrev pub OneTree : List ℕ → Type 0
OneTree text = (t u : Json) → Text t text → Text u text → t ≡ u
