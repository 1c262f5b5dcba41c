-- The values of a payload that are read, before their forms are looked at. Assumes nothing.
use Rattle.std.specs.Prelude.{◌≡◌, ℕ, List, IfSome, IsSomeAnd, Some, None, Ok, codes, Option, Result, MatchOption, MatchResult, ◌≢◌}
use Rattle.std.specs.Borrow.{Bor}
use Rattle.frame_reader.specs.Frame.{May, Must, Named, NamedMeter, NamedSample}
use Rattle.frame_reader.specs.Members.{element_of, element_under}
use Rattle.frame.specs.Members.{members_of, under}
use Rattle.frame.specs.Slots.{Under}
use Rattle.frame_reader.specs.declared.fields.Fields.{Fields}
use Rattle.frame_reader.specs.declared.fields.Sample.{Sample}
use Rattle.json_text.specs.Grammar.{Json, Membs, Value}
use Rattle.refusal.specs.declared.Refusal.{Refusal}
use Rattle.refusal.specs.declared.Refusal.TheVariants.{BadMembers}

-- the object that is the only value of the array
abbrev pub only_object : Json → Option Membs
only_object tree = element_of (Some tree)

-- a name that may stand, with its value where it does
abbrev pub UnderIf : List ℕ → Membs → Option (Bor (List ℕ)) → Type 0
UnderIf name ms o = MatchOption o (under name ms ≡ None) (λ v. Under name ms v.now)

-- the members in a value are named as they should be, where there are any, or they are not
abbrev pub InMembers : {A : Type 0} → Type 0 → Result A Refusal → (A → Type 0) → Type 0
InMembers named r holds = MatchResult r (λ a. named × holds a) (λ why. (why ≡ BadMembers) × (named → ⊥))

-- the transaction id in the value of transactionInfo
pub record IdIn (tree : Json) (id : List ℕ) : Type 0 where
  pub info : Membs
  pub is : members_of tree ≡ Some info
  pub under_it : Under (codes "transactionId") info id

abbrev pub IdOf : Json → Option (Bor (List ℕ)) → Type 0
IdOf tree o = MatchOption o (members_of tree ≡ None) (λ id. IdIn tree id.now)

abbrev pub IdFinds : Json → Result (Option (Bor (List ℕ))) Refusal → Type 0
IdFinds tree r = InMembers (IfSome (members_of tree) (Must (codes "transactionId"))) r (IdOf tree)

-- value and measurand of a sample
pub record SampleOf (sample : Membs) (s : Sample) : Type 0 where
  pub value : Under (codes "value") sample s.value.now
  pub measurand : UnderIf (codes "measurand") sample s.measurand

abbrev pub SampleFinds : Membs → Result (Option Sample) Refusal → Type 0
SampleFinds sample r = InMembers (NamedSample sample) r (λ o. IsSomeAnd o (SampleOf sample))

-- the sample in the value of meterValue
pub record SampleIn (tree : Json) (s : Sample) : Type 0 where
  pub meter : Membs
  pub sample : Membs
  pub meter_is : only_object tree ≡ Some meter
  pub sample_is : element_under (codes "sampledValue") meter ≡ Some sample
  pub of : SampleOf sample s

abbrev pub NoSample : Json → Type 0
NoSample tree = (meter sample : Membs) → only_object tree ≡ Some meter → element_under (codes "sampledValue") meter ≢ Some sample

-- the bytes of a value that may be there
abbrev pub ValueIf : Option Json → Option (Bor (List ℕ)) → Type 0
ValueIf None None = Unit {0}
ValueIf None (Some v) = ⊥
ValueIf (Some tree) None = ⊥
ValueIf (Some tree) (Some v) = Value tree v.now

-- a meterValue that may be there, with the sample in it where there is one to read
abbrev pub MeterOf : Option Json → Option (Option Sample) → Type 0
MeterOf None None = Unit {0}
MeterOf None (Some o) = ⊥
MeterOf (Some tree) None = ⊥
MeterOf (Some tree) (Some None) = NoSample tree
MeterOf (Some tree) (Some (Some s)) = SampleIn tree s

-- what is found in the object that is the only value of the array, nothing where there is none
abbrev pub OnlyFinds : (Membs → Result (Option Sample) Refusal → Type 0) → Json → Result (Option Sample) Refusal → Type 0
OnlyFinds finds tree r = MatchOption (only_object tree) (r ≡ Ok None) (λ ms. finds ms r)

-- the sample in the value of sampledValue
pub record InSampled (tree : Json) (s : Sample) : Type 0 where
  pub sample : Membs
  pub is : only_object tree ≡ Some sample
  pub of : SampleOf sample s

-- what was found in it, nothing where it is of another kind or length
abbrev pub SampledFinds : Json → Result (Option Sample) Refusal → Type 0
SampledFinds tree r = InMembers (IfSome (only_object tree) NamedSample) r (λ o. MatchOption o (only_object tree ≡ None) (InSampled tree))

-- the same of the element of meterValue
pub record InElement (meter : Membs) (s : Sample) : Type 0 where
  pub sample : Membs
  pub is : element_under (codes "sampledValue") meter ≡ Some sample
  pub of : SampleOf sample s

abbrev pub ElementFinds : Membs → Result (Option Sample) Refusal → Type 0
ElementFinds meter r = InMembers (NamedMeter meter) r (λ o. MatchOption o (element_under (codes "sampledValue") meter ≡ None) (InElement meter))

-- the same of the value of meterValue
abbrev pub MeterFinds : Json → Result (Option Sample) Refusal → Type 0
MeterFinds tree r = InMembers (IfSome (only_object tree) NamedMeter) r (λ o. MatchOption o (NoSample tree) (SampleIn tree))

-- and of a payload
abbrev pub RegisterFinds : Membs → Result (Option (Option Sample)) Refusal → Type 0
RegisterFinds payload r =
    InMembers (May (codes "meterValue") payload × IfSome (element_under (codes "meterValue") payload) NamedMeter) r (MeterOf (under (codes "meterValue") payload))

-- the values of a payload
pub record FieldsOf (payload : Membs) (f : Fields) : Type 0 where
  pub event_type : Under (codes "eventType") payload f.event_type.now
  pub timestamp : Under (codes "timestamp") payload f.timestamp.now
  pub trigger_reason : Under (codes "triggerReason") payload f.trigger_reason.now
  pub seq_no : Under (codes "seqNo") payload f.seq_no.now
  pub offline : UnderIf (codes "offline") payload f.offline
  pub info : Json
  pub info_is : under (codes "transactionInfo") payload ≡ Some info
  pub transaction_id : IdOf info f.transaction_id
  pub meter : MeterOf (under (codes "meterValue") payload) f.meter

abbrev pub Finds : Membs → Result Fields Refusal → Type 0
Finds payload r = InMembers (Named payload) r (FieldsOf payload)
