-- What a frame of a transmission is, by the tree of its text. Assumes nothing.
use Rattle.std.specs.Prelude.{◌≡◌, ℕ, ◌<◌, ◌≤◌, Bool, true, false, List, length, IfSome, Some, None, Ok, codes, decimal, Result, MatchOption, MatchResult}
use Rattle.calendar.specs.Calendar.{Denotes}
use Rattle.event.specs.Lawful.{LawfulTransmission}
use Rattle.event.specs.Names.{reason_text, type_text}
use Rattle.event.specs.declared.events.Event.{Event}
use Rattle.event.specs.declared.events.Transmission.{Transmission}
use Rattle.frame.specs.Call.{Call, NoCall}
use Rattle.frame_reader.specs.Members.{element_under, object_under}
use Rattle.frame.specs.Members.{count, under}
use Rattle.ids.specs.Ids.{id_text, message_id_text}
use Rattle.json_text.specs.Beginnings.{Deep, IsJson}
use Rattle.json_text.specs.Grammar.{Json, Membs, Text}
use Rattle.json_text.specs.Grammar.Json.{jfalse, jnumber, jstring, jtrue}
use Rattle.refusal.specs.declared.Refusal.{Refusal}
use Rattle.refusal.specs.declared.Refusal.TheVariants.{BadMembers, BadValue, NotAFrame, NotJson, TextTooLong, TooDeep}

abbrev pub flag : Bool → Json
flag true = jtrue
flag false = jfalse

-- the name stands once; the name stands once or not at all
abbrev pub Must : List ℕ → Membs → Type 0
Must name ms = count name ms ≡ 1

abbrev pub May : List ℕ → Membs → Type 0
May name ms = count name ms ≤ 1

-- The read objects, each with its read names as often as they may stand. Where the value under a name is of
-- another kind or length, nothing in it is read.
pub record NamedPayload (payload : Membs) : Type 0 where
  pub event_type : Must (codes "eventType") payload
  pub timestamp : Must (codes "timestamp") payload
  pub trigger_reason : Must (codes "triggerReason") payload
  pub seq_no : Must (codes "seqNo") payload
  pub offline : May (codes "offline") payload
  pub transaction_info : Must (codes "transactionInfo") payload
  pub meter_value : May (codes "meterValue") payload

pub record NamedSample (sample : Membs) : Type 0 where
  pub value : Must (codes "value") sample
  pub measurand : May (codes "measurand") sample

-- the element of meterValue, and the element of its sampledValue
pub record NamedMeter (meter : Membs) : Type 0 where
  pub sampled_value : Must (codes "sampledValue") meter
  pub sample : IfSome (element_under (codes "sampledValue") meter) NamedSample

-- in every read object no read name stands twice and no required one is missing
pub record Named (payload : Membs) : Type 0 where
  pub here : NamedPayload payload
  pub info : IfSome (object_under (codes "transactionInfo") payload) (Must (codes "transactionId"))
  pub meter : IfSome (element_under (codes "meterValue") payload) NamedMeter

-- a missing measurand is the register's
abbrev pub measurand_text : List ℕ
measurand_text = codes "Energy.Active.Import.Register"

-- the register that a meterValue tells
pub record Sampled (payload : Membs) (wh : ℕ) : Type 0 where
  pub meter : Membs
  pub sample : Membs
  pub meter_is : element_under (codes "meterValue") payload ≡ Some meter
  pub sample_is : element_under (codes "sampledValue") meter ≡ Some sample
  pub value : under (codes "value") sample ≡ Some (jnumber (decimal wh))
  pub measurand : IfSome (under (codes "measurand") sample) (λ m. m ≡ jstring measurand_text)

-- the timestamp is of the form, and of this second
pub record Timed (payload : Membs) (time : ℕ) : Type 0 where
  pub written : List ℕ
  pub is : under (codes "timestamp") payload ≡ Some (jstring written)
  pub denotes : Denotes written time

-- the transaction id is that of the station and the session
pub record Identified (payload : Membs) (station session : ℕ) : Type 0 where
  pub info : Membs
  pub is : object_under (codes "transactionInfo") payload ≡ Some info
  pub id : under (codes "transactionId") info ≡ Some (jstring (id_text station session))

-- the payload tells the event
pub record Tells (payload : Membs) (e : Event) : Type 0 where
  pub kind : under (codes "eventType") payload ≡ Some (jstring (type_text e.kind))
  pub time : Timed payload e.time
  pub reason : under (codes "triggerReason") payload ≡ Some (jstring (reason_text e.reason))
  pub number : under (codes "seqNo") payload ≡ Some (jnumber (decimal e.number))
  -- a missing flag is false
  pub offline : MatchOption (under (codes "offline") payload) (e.offline ≡ false) (λ f. f ≡ flag e.offline)
  pub transaction : Identified payload e.station e.session
  -- a missing meterValue is an absent register
  pub register : MatchOption e.register (under (codes "meterValue") payload ≡ None) (Sampled payload)

-- message id and payload are those of the transmission, and it is lawful
pub record Says (id : List ℕ) (payload : Membs) (t : Transmission) : Type 0 where
  pub message : id ≡ message_id_text t.event.station t.event.session t.event.number t.attempt
  pub tells : Tells payload t.event
  pub lawful : LawfulTransmission t

abbrev pub longest : ℕ
longest = 1024

-- the text is short and shallow enough, and this is its tree
pub record Parsed (bytes : List ℕ) (tree : Json) : Type 0 where
  pub short : length bytes ≤ longest
  pub shallow : Deep bytes → ⊥
  pub is : Text tree bytes

-- and it is a call with this message id and payload
pub record Called (bytes id : List ℕ) (payload : Membs) : Type 0 where
  pub tree : Json
  pub parsed : Parsed bytes tree
  pub call : Call tree id payload

-- The text is a frame of the transmission.
pub record Frame (bytes : List ℕ) (t : Transmission) : Type 0 where
  pub id : List ℕ
  pub payload : Membs
  pub called : Called bytes id payload
  pub named : Named payload
  pub says : Says id payload t

-- The text is none, and this is why.
pub data Refused (bytes : List ℕ) : Refusal → Type 0 where
  too_long : longest < length bytes → Refused bytes TextTooLong
  too_deep : length bytes ≤ longest → Deep bytes → Refused bytes TooDeep
  not_json : length bytes ≤ longest → (Deep bytes → ⊥) → (IsJson bytes → ⊥) → Refused bytes NotJson
  not_a_frame : {tree : Json} → Parsed bytes tree → NoCall tree → Refused bytes NotAFrame
  bad_members : {id : List ℕ} {payload : Membs} → Called bytes id payload → (Named payload → ⊥) → Refused bytes BadMembers
  bad_value : {id : List ℕ} {payload : Membs} → Called bytes id payload → Named payload → ((t : Transmission) → Says id payload t → ⊥) → Refused bytes BadValue

-- the transmission of which the text is a frame, or why it is none
abbrev pub Reads : List ℕ → Result Transmission Refusal → Type 0
Reads bytes r = MatchResult r (Frame bytes) (Refused bytes)

-- a text that is a frame of a transmission is read as that one
abbrev pub ReadsAs : List ℕ → Result Transmission Refusal → Type 0
ReadsAs bytes r = (t : Transmission) → Frame bytes t → r ≡ Ok t

-- no other answer to the text is right
abbrev pub OnlyAnswer : List ℕ → Result Transmission Refusal → Type 0
OnlyAnswer bytes r = (other : Result Transmission Refusal) → Reads bytes other → other ≡ r
