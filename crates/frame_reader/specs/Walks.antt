-- An array that begins with an object. Assumes nothing.
use Rattle.std.specs.Prelude.{◌≡◌, ℕ, List, ◌≢◌}
use Rattle.frame.specs.Walks.{BehindIn, Opened}
use Rattle.json_text.specs.Grammar.{Elems, Json, Membs}
use Rattle.json_text.specs.Grammar.Elems.{elem}
use Rattle.json_text.specs.Grammar.Json.{jarray, jobject}

-- the value is an array that begins with an object, and the bytes stand after its brace
pub record FirstObject (tree : Json) (s end : List ℕ) : Type 0 where
  pub members : Membs
  pub others : Elems
  pub is : tree ≡ jarray (elem (jobject members) others)
  pub behind : List ℕ
  pub opened : Opened members s behind
  pub more : BehindIn others behind end

-- the value is no array, or one that does not begin with an object
abbrev pub NoObject : Json → Type 0
NoObject tree = (ms : Membs) (es : Elems) → tree ≢ jarray (elem (jobject ms) es)
