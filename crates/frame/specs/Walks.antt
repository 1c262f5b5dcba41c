-- The steps of a walk through values, objects and arrays. Assumes nothing.
use Rattle.std.specs.Prelude.{◌≡◌, ℕ, ◌⊎◌, List, [], ◌∷◌, ◌++◌, Option, MatchOption, ◌≢◌}
use Rattle.std.specs.Borrow.{Bor}
use Rattle.std.specs.declared.ops.ControlFlow.{ControlFlow}
use Rattle.std.specs.ControlFlow.{MatchControlFlow}
use Rattle.json_text.specs.Grammar.{Elements, Elems, Json, Members, Membs, Value}
use Rattle.json_text.specs.Grammar.Elems.{no_elem, elem}
use Rattle.json_text.specs.Grammar.Json.{jarray}
use Rattle.json_text.specs.Grammar.Membs.{no_memb, memb}
use Rattle.json_text.specs.Parts.{Follows, skip}

-- a name as it is written
abbrev pub quoted : List ℕ → List ℕ
quoted name = 34 ∷ (name ++ (34 ∷ []))

-- the bytes begin with the value, and this is behind it
pub record Begins (tree : Json) (s behind : List ℕ) : Type 0 where
  pub value : List ℕ
  pub whole : s ≡ value ++ behind
  pub is : Value tree value
  pub on : Follows behind

-- what was found in the value at the front is right, and this is behind it
abbrev pub Through : {A : Type 0} → (Json → A → Type 0) → List ℕ → A → List ℕ → Type 0
Through right s found rest = (tree : Json) (behind : List ℕ) → Begins tree s behind → right tree found × (rest ≡ behind)

-- the bytes go on with these members, up to the end of the object, and this is behind it
pub record Ahead (ms : Membs) (s end : List ℕ) : Type 0 where
  pub bytes : List ℕ
  pub whole : s ≡ bytes ++ (125 ∷ end)
  pub is : Members ms bytes

-- the bytes stand after the brace of an object with these members, and this is behind it
abbrev pub Opened : Membs → List ℕ → List ℕ → Type 0
Opened ms s end = ((ms ≡ no_memb) × (skip s ≡ 125 ∷ end)) ⊎ Ahead ms s end

-- the bytes stand after the value of a member that these follow
abbrev pub Behind : Membs → List ℕ → List ℕ → Type 0
Behind ms s end = ((ms ≡ no_memb) × (skip s ≡ 125 ∷ end)) ⊎ ((rest : List ℕ) × (skip s ≡ 44 ∷ rest) × Ahead ms rest end)

-- these members are left
abbrev pub LeftOf : Membs → List ℕ → ControlFlow (Bor (List ℕ)) (Bor (List ℕ)) → Type 0
LeftOf ms end left = MatchControlFlow left (λ s. Ahead ms s.now end) (λ s. (ms ≡ no_memb) × (s.now ≡ end))

-- the same of what was found in an object, from after its brace
abbrev pub ThroughObject : {A : Type 0} → (Membs → A → Type 0) → List ℕ → A → List ℕ → Type 0
ThroughObject right s found rest = (ms : Membs) (end : List ℕ) → Opened ms s end → right ms found × (rest ≡ end)

-- the name of the first member was taken off, and its value is next
pub record Taken (ms : Membs) (name s end : List ℕ) : Type 0 where
  pub called : List ℕ
  pub tree : Json
  pub others : Membs
  pub is : ms ≡ memb called tree others
  pub name_is : name ≡ quoted called
  pub behind : List ℕ
  pub value : Begins tree s behind
  pub more : Behind others behind end

-- the bytes go on with these values, up to the end of the array, and this is behind it
pub record AheadIn (es : Elems) (s end : List ℕ) : Type 0 where
  pub bytes : List ℕ
  pub whole : s ≡ bytes ++ (93 ∷ end)
  pub is : Elements es bytes

-- the bytes stand after a value that these follow
abbrev pub BehindIn : Elems → List ℕ → List ℕ → Type 0
BehindIn es s end = ((es ≡ no_elem) × (skip s ≡ 93 ∷ end)) ⊎ ((rest : List ℕ) × (skip s ≡ 44 ∷ rest) × AheadIn es rest end)

-- these values are left
abbrev pub LeftIn : Elems → List ℕ → Option (Bor (List ℕ)) → Type 0
LeftIn es end left = MatchOption left (es ≡ no_elem) (λ r. AheadIn es r.now end)

-- the first value was taken off; after a comma there are more
pub record TakenOff (es : Elems) (value : List ℕ) (rest : Option (Bor (List ℕ))) (end : List ℕ) : Type 0 where
  pub tree : Json
  pub others : Elems
  pub is : es ≡ elem tree others
  pub value_is : Value tree value
  pub more : LeftIn others end rest

-- the value is an array with values, and the bytes go on with them
pub record Values (tree : Json) (s : List ℕ) : Type 0 where
  pub values : Elems
  pub end : List ℕ
  pub is : tree ≡ jarray values
  pub ahead : AheadIn values s end

-- the value is no array, or an empty one
abbrev pub NoValues : Json → Type 0
NoValues tree = (e : Json) (es : Elems) → tree ≢ jarray (elem e es)
