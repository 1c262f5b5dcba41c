-- Lines of a meter sheet: the transaction id, the started and the ended register, each after one space. Assumes nothing.
use Rattle.std.specs.Prelude.{◌≡◌, ℕ, ◌+◌, ◌-◌, ◌<◌, ◌≤◌, ◌⊎◌, List, length, Result, MatchResult}
use Rattle.cents.specs.Cents.{Priced, largest_price}
use Rattle.decimal.specs.Decimal.{PlainText, value}
use Rattle.event.specs.Lawful.{largest_register}
use Rattle.ids.specs.Ids.{NoId}
use Rattle.ids.specs.Ids.{Id as IdOf}
use Rattle.refusal.specs.declared.Refusal.{Refusal}
use Rattle.refusal.specs.declared.Refusal.TheVariants.{BadValue, OutOfRange, RegisterFell}
use Rattle.sheet.specs.declared.entry.Charge.{Charge}
use Rattle.sheet.specs.declared.entry.Entry.{Entry}
use Rattle.sheet.specs.declared.entry.Field.{Field}
use Rattle.sheet.specs.declared.entry.Field.TheVariants.{Id, Started, Ended, Price}
use Rattle.sheet.specs.declared.entry.Misread.{Misread}
use Rattle.split.specs.Split.{after, before}

-- the field before the first space, the one before the second, and all that follows
abbrev pub id_field : List ℕ → List ℕ
id_field line = before 32 line

abbrev pub started_field : List ℕ → List ℕ
started_field line = before 32 (after 32 line)

abbrev pub ended_field : List ℕ → List ℕ
ended_field line = after 32 (after 32 line)

-- the place, counted from 1, at which a field begins or would begin; the price stands in no line
abbrev pub place_of : Field → List ℕ → ℕ
place_of Id line = 1
place_of Started line = length (id_field line) + 2
place_of Ended line = length (id_field line) + length (started_field line) + 3
place_of Price line = 0

-- the text is the plain number n, and n is within the limit
pub record Number (limit : ℕ) (text : List ℕ) (n : ℕ) : Type 0 where
  pub form : PlainText text
  pub is : value text ≡ n
  pub within : n ≤ limit

-- why the text is no such number: it is not of the form, or it is above the limit
abbrev pub NoNumber : ℕ → List ℕ → Refusal → Type 0
NoNumber limit text why =
    ((why ≡ BadValue) × (PlainText text → ⊥)) ⊎ ((why ≡ OutOfRange) × PlainText text × (limit < value text))

abbrev pub ReadsNumber : ℕ → List ℕ → Result ℕ Refusal → Type 0
ReadsNumber limit text r = MatchResult r (Number limit text) (NoNumber limit text)

-- the line is good, and this is what it says
pub record Says (line : List ℕ) (entry : Entry) : Type 0 where
  pub id : IdOf (id_field line) entry.id
  pub started : Number largest_register (started_field line) entry.started
  pub ended : Number largest_register (ended_field line) entry.ended
  pub rising : entry.started ≤ entry.ended

-- why the line is refused: for the first wrong field from the left, or else for an ended register below the started one
pub data Wrong (line : List ℕ) : Field → Refusal → Type 0 where
  in_id : {why : Refusal} → NoId (id_field line) why → Wrong line Id why
  in_started : {why : Refusal} (entry : Entry) → IdOf (id_field line) entry.id → NoNumber largest_register (started_field line) why → Wrong line Started why
  in_ended : {why : Refusal} (entry : Entry) → IdOf (id_field line) entry.id → Number largest_register (started_field line) entry.started → NoNumber largest_register (ended_field line) why → Wrong line Ended why
  falling : (entry : Entry) → IdOf (id_field line) entry.id → Number largest_register (started_field line) entry.started → Number largest_register (ended_field line) entry.ended → entry.ended < entry.started → Wrong line Ended RegisterFell

pub record Refused (line : List ℕ) (m : Misread) : Type 0 where
  pub place : m.place ≡ place_of m.field line
  pub why : Wrong line m.field m.why

-- what a good line costs
pub record Charged (line : List ℕ) (price : ℕ) (c : Charge) : Type 0 where
  pub entry : Entry
  pub says : Says line entry
  pub id : c.id ≡ entry.id
  pub energy : c.energy ≡ entry.ended - entry.started
  pub priced : Priced c.energy price c.cents

-- the line is good, and the price is out of range
pub record NoPrice (line : List ℕ) (price : ℕ) (m : Misread) : Type 0 where
  pub entry : Entry
  pub says : Says line entry
  pub range : largest_price < price
  pub field : m.field ≡ Price
  pub place : m.place ≡ place_of Price line
  pub why : m.why ≡ OutOfRange

abbrev pub Uncharged : List ℕ → ℕ → Misread → Type 0
Uncharged line price m = Refused line m ⊎ NoPrice line price m
