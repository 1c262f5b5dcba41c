-- Which value begins with which byte. Assumes nothing.
use Rattle.std.specs.Prelude.{◌≡◌, ℕ, List, ◌++◌}
use Rattle.json_text.specs.Grammar.{Json, Value, White}

-- after white space the bytes begin with the value, whatever follows it
pub record At (tree : Json) (s : List ℕ) : Type 0 where
  pub front : List ℕ
  pub value : List ℕ
  pub behind : List ℕ
  pub whole : s ≡ front ++ (value ++ behind)
  pub white : White front
  pub is : Value tree value
