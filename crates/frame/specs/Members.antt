-- Members of an object by their names, as they are written. Assumes nothing.
use Rattle.std.specs.Prelude.{ℕ, suc, cond, List, Some, None, Option}
use Rattle.json_text.specs.Grammar.{Elems, Json, Membs}
use Rattle.json_text.specs.Grammar.Elems.{no_elem, elem}
use Rattle.json_text.specs.Grammar.Json.{jnull, jtrue, jfalse, jnumber, jstring, jarray, jobject}
use Rattle.json_text.specs.Grammar.Membs.{no_memb, memb}
use Rattle.std.specs.Str.{bytes_eq}

-- how often a name stands among the members
abbrev pub count : List ℕ → Membs → ℕ
count name no_memb = 0
count name (memb n v ms) = cond (bytes_eq n name) (suc (count name ms)) (count name ms)

-- the value under a name, where it stands
abbrev pub under : List ℕ → Membs → Option Json
under name no_memb = None
under name (memb n v ms) = cond (bytes_eq n name) (Some v) (under name ms)

-- the members, where the value is an object
abbrev pub members_of : Json → Option Membs
members_of jnull = None
members_of jtrue = None
members_of jfalse = None
members_of (jnumber n) = None
members_of (jstring s) = None
members_of (jarray es) = None
members_of (jobject ms) = Some ms

-- the only value of an array
abbrev pub only : Elems → Option Json
only no_elem = None
only (elem e no_elem) = Some e
only (elem e (elem f es)) = None

abbrev pub only_of : Json → Option Json
only_of jnull = None
only_of jtrue = None
only_of jfalse = None
only_of (jnumber n) = None
only_of (jstring s) = None
only_of (jarray es) = only es
only_of (jobject ms) = None
