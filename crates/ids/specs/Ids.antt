-- Transaction ids as they are written. Assumes nothing.
use Rattle.std.specs.Prelude.{◌≡◌, ℕ, ◌^◌, ◌<◌, ◌≤◌, ◌⊎◌, List, ◌∷◌, ◌++◌, Result, MatchResult}
use Rattle.decimal.specs.Decimal.{fixed}
use Rattle.event.specs.Lawful.{last_station}
use Rattle.ids.specs.declared.TransactionId.{TransactionId}
use Rattle.ids.specs.declared.message.MessageId.{MessageId}
use Rattle.refusal.specs.declared.Refusal.{Refusal}
use Rattle.refusal.specs.declared.Refusal.TheVariants.{BadValue, OutOfRange}

-- five digits of the station, a hyphen, eight digits of the session
abbrev pub id_text : (station session : ℕ) → List ℕ
id_text station session = fixed 5 station ++ 45 ∷ fixed 8 session

-- the transaction id, then hyphens, four digits of the number and two of the attempt
abbrev pub message_id_text : (station session number attempt : ℕ) → List ℕ
message_id_text station session number attempt = id_text station session ++ 45 ∷ (fixed 4 number ++ 45 ∷ fixed 2 attempt)

-- the text is of the form, and these are its numbers
pub record Written (text : List ℕ) (station session : ℕ) : Type 0 where
  pub station_below : station < 10 ^ 5
  pub session_below : session < 10 ^ 8
  pub bytes : text ≡ id_text station session

abbrev pub NotWritten : List ℕ → Type 0
NotWritten text = (station session : ℕ) → Written text station session → ⊥

-- a station and a session that there can be; eight digits keep the session below its limit
abbrev pub Possible : (station session : ℕ) → Type 0
Possible station session = (station ≤ last_station) × (1 ≤ session)

-- the id that the text writes
pub record Id (text : List ℕ) (id : TransactionId) : Type 0 where
  pub written : Written text id.station id.session
  pub possible : Possible id.station id.session

-- why the text gives no id: it is not of the form, or it is and its numbers are out of range
abbrev pub NoId : List ℕ → Refusal → Type 0
NoId text why =
    ((why ≡ BadValue) × NotWritten text)
    ⊎ ((why ≡ OutOfRange) × ((station : ℕ) × (session : ℕ) × Written text station session × (Possible station session → ⊥)))

abbrev pub ReadsId : List ℕ → Result TransactionId Refusal → Type 0
ReadsId text r = MatchResult r (Id text) (NoId text)

-- the bytes begin with a number in w digits and a hyphen, and this is the rest
pub record Leads (w : ℕ) (text : List ℕ) (n : ℕ) (rest : List ℕ) : Type 0 where
  pub below : n < 10 ^ w
  pub bytes : text ≡ fixed w n ++ 45 ∷ rest

abbrev pub NoLead : (w : ℕ) → List ℕ → Type 0
NoLead w text = (n : ℕ) (rest : List ℕ) → Leads w text n rest → ⊥

-- the text is a number in w digits, and this is the number
pub record Digits (w : ℕ) (text : List ℕ) (n : ℕ) : Type 0 where
  pub below : n < 10 ^ w
  pub bytes : text ≡ fixed w n

abbrev pub NoDigits : (w : ℕ) → List ℕ → Type 0
NoDigits w text = (n : ℕ) → Digits w text n → ⊥

-- the text is a message id, and these are its numbers
pub record MessageWritten (text : List ℕ) (id : MessageId) : Type 0 where
  pub station_below : id.station < 10 ^ 5
  pub session_below : id.session < 10 ^ 8
  pub number_below : id.number < 10 ^ 4
  pub attempt_below : id.attempt < 10 ^ 2
  pub bytes : text ≡ message_id_text id.station id.session id.number id.attempt

abbrev pub NoMessage : List ℕ → Type 0
NoMessage text = (id : MessageId) → MessageWritten text id → ⊥
