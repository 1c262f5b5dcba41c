-- The text of a JSON value without white space. Assumes nothing.
use Rattle.std.specs.Prelude.{ℕ, List, [], ◌∷◌, ◌++◌, codes}
use Rattle.frame.specs.Walks.{quoted}
use Rattle.json_text.specs.Grammar.{Elems, Json, Membs}
use Rattle.json_text.specs.Grammar.Elems.{no_elem, elem}
use Rattle.json_text.specs.Grammar.Json.{jnull, jtrue, jfalse, jnumber, jstring, jarray, jobject}
use Rattle.json_text.specs.Grammar.Membs.{no_memb, memb}

abbrev mutual
  pub compact : Json → List ℕ
  compact jnull = codes "null"
  compact jtrue = codes "true"
  compact jfalse = codes "false"
  compact (jnumber n) = n
  compact (jstring s) = quoted s
  compact (jarray es) = 91 ∷ (values es ++ (93 ∷ []))
  compact (jobject ms) = 123 ∷ (members ms ++ (125 ∷ []))

  -- the values of an array, with commas between them
  pub values : Elems → List ℕ
  values no_elem = []
  values (elem e es) = compact e ++ other_values es

  -- each behind a comma
  pub other_values : Elems → List ℕ
  other_values no_elem = []
  other_values (elem e es) = 44 ∷ (compact e ++ other_values es)

  -- the members of an object: the name in quotes, a colon and the value, with commas between them
  pub members : Membs → List ℕ
  members no_memb = []
  members (memb n e ms) = quoted n ++ (58 ∷ (compact e ++ other_members ms))

  -- each behind a comma
  pub other_members : Membs → List ℕ
  other_members no_memb = []
  other_members (memb n e ms) = 44 ∷ (quoted n ++ (58 ∷ (compact e ++ other_members ms)))
