-- Members of an object by their names, as they are written. Assumes nothing.
use Rattle.std.specs.Prelude.{ℕ, List, Some, None, Option}
use Rattle.frame.specs.Members.{members_of, only_of, under}
use Rattle.json_text.specs.Grammar.{Json, Membs}

-- what a value gives, where there is one
abbrev pub chain : {A B : Type 0} → Option A → (A → Option B) → Option B
chain None f = None
chain (Some a) f = f a

-- the members of the object under a name
abbrev pub object_under : List ℕ → Membs → Option Membs
object_under name ms = chain (under name ms) members_of

-- the members of the object that is the only value of an array
abbrev pub element_of : Option Json → Option Membs
element_of value = chain (chain value only_of) members_of

abbrev pub element_under : List ℕ → Membs → Option Membs
element_under name ms = element_of (under name ms)
