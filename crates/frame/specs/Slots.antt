-- What a look for a name finds among the members of an object. Assumes nothing.
use Rattle.std.specs.Prelude.{◌≡◌, ℕ, ◌+◌, ◌≤◌, List, Some, None, Ok, Err, Option, Result, MatchOption, MatchResult, ◌≢◌}
use Rattle.std.specs.Borrow.{Bor}
use Rattle.frame.specs.Members.{count, under}
use Rattle.frame.specs.declared.slot.Slot.{Slot}
use Rattle.frame.specs.declared.slot.Slot.TheVariants.{Missing, Once, Twice}
use Rattle.json_text.specs.Grammar.{Json, Membs, Value}
use Rattle.refusal.specs.declared.Refusal.{Refusal}
use Rattle.refusal.specs.declared.Refusal.TheVariants.{BadMembers}

-- the value is these bytes
abbrev pub Bytes : Json → Bor (List ℕ) → Type 0
Bytes tree v = Value tree v.now

-- the name stands nowhere, once with a value of which this was found, or more often
abbrev pub Found : {T : Type 0} → (Json → T → Type 0) → Slot T → List ℕ → Membs → Type 0
Found right Missing name ms = (count name ms ≡ 0) × (under name ms ≡ None)
Found right (Once v) name ms = (count name ms ≡ 1) × ((tree : Json) × (under name ms ≡ Some tree) × right tree v)
Found right Twice name ms = 2 ≤ count name ms

-- the name stands once more
abbrev pub added : {T : Type 0} → Slot T → T → Slot T
added Missing value = Once value
added (Once v) value = Twice
added Twice value = Twice

-- the same of the members that have been passed, where these are left
abbrev pub SoFar : {T : Type 0} → (Json → T → Type 0) → Slot T → List ℕ → Membs → Membs → Type 0
SoFar right Missing name ms left = (count name ms ≡ count name left) × (under name ms ≡ under name left)
SoFar right (Once v) name ms left = (count name ms ≡ 1 + count name left) × ((tree : Json) × (under name ms ≡ Some tree) × right tree v)
SoFar right Twice name ms left = 2 ≤ count name ms

-- a name that must stand once; a name that may stand once
abbrev pub required_of : {T : Type 0} → Slot T → Result T Refusal
required_of Missing = Err BadMembers
required_of (Once v) = Ok v
required_of Twice = Err BadMembers

abbrev pub optional_of : {T : Type 0} → Slot T → Result (Option T) Refusal
optional_of Missing = Ok None
optional_of (Once v) = Ok (Some v)
optional_of Twice = Err BadMembers

-- the bytes are the value under the name
pub record Under (name : List ℕ) (ms : Membs) (value : List ℕ) : Type 0 where
  pub tree : Json
  pub is : under name ms ≡ Some tree
  pub bytes : Value tree value

-- a name that must stand once does, with this value, or does not
abbrev pub Required : List ℕ → Membs → Result (Bor (List ℕ)) Refusal → Type 0
Required name ms r = MatchResult r (λ v. (count name ms ≡ 1) × Under name ms v.now) (λ why. (why ≡ BadMembers) × (count name ms ≢ 1))

-- a name that may stand once stands with this value or not at all, or it stands twice
abbrev pub Optional : List ℕ → Membs → Result (Option (Bor (List ℕ))) Refusal → Type 0
Optional name ms r =
    MatchResult r (λ o. (count name ms ≤ 1) × MatchOption o (under name ms ≡ None) (λ v. Under name ms v.now)) (λ why. (why ≡ BadMembers) × (count name ms ≤ 1 → ⊥))
