-- What the values of a payload tell of its event. Assumes nothing.
use Rattle.std.specs.Prelude.{◌≡◌, ℕ, ◌≤◌, Bool, false, IfSome, Some, None, codes, decimal, Option, MatchOption}
use Rattle.event.specs.Lawful.{Lawful, largest_register}
use Rattle.event.specs.declared.events.Event.{Event}
use Rattle.frame_reader.specs.Frame.{Sampled, Tells, flag, measurand_text}
use Rattle.frame.specs.Members.{under}
use Rattle.ids.specs.declared.MessageId.{MessageId}
use Rattle.json_text.specs.Grammar.{Json, Membs}
use Rattle.json_text.specs.Grammar.Json.{jnumber, jstring}

-- a missing flag is false
abbrev pub FlagIs : Option Json → Bool → Type 0
FlagIs tree b = MatchOption tree (b ≡ false) (λ f. f ≡ flag b)

-- the measurand is the register's, or missing
abbrev pub MeasuresRegister : Option Json → Type 0
MeasuresRegister tree = IfSome tree (λ m. m ≡ jstring measurand_text)

-- the sample tells the register
pub record SampleTells (sample : Membs) (wh : ℕ) : Type 0 where
  pub value : under (codes "value") sample ≡ Some (jnumber (decimal wh))
  pub measurand : MeasuresRegister (under (codes "measurand") sample)

abbrev pub NoSampled : Membs → Type 0
NoSampled sample = (wh : ℕ) → wh ≤ largest_register → SampleTells sample wh → ⊥

-- a missing meterValue is an absent register
abbrev pub RegisterTold : Membs → Option ℕ → Type 0
RegisterTold payload register = MatchOption register (under (codes "meterValue") payload ≡ None) (Sampled payload)

abbrev pub SmallRegister : Option ℕ → Type 0
SmallRegister register = IfSome register (λ wh. wh ≤ largest_register)

abbrev pub RegisterIs : Membs → Option ℕ → Type 0
RegisterIs payload register = SmallRegister register × RegisterTold payload register

abbrev pub NoRegister : Membs → Type 0
NoRegister payload = (register : Option ℕ) → SmallRegister register → RegisterTold payload register → ⊥

-- the payload tells the event, and it is of the message id's station, session and number
pub record EventTold (payload : Membs) (id : MessageId) (e : Event) : Type 0 where
  pub station : e.station ≡ id.station
  pub session : e.session ≡ id.session
  pub number : e.number ≡ id.number
  pub tells : Tells payload e

abbrev pub NoEvent : Membs → MessageId → Type 0
NoEvent payload id = (e : Event) → Lawful e → EventTold payload id e → ⊥
