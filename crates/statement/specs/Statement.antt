-- The statement of a list of held events. Assumes nothing.
use Rattle.std.specs.Prelude.{◌≡◌, ℕ, ◌<◌, ◌≤◌, not, ◌⊎◌, List, ◌++◌, length, Ok, Err, filter, Result}
use Rattle.cents.specs.Cents.{largest_price}
pub use Rattle.draft.specs.Growing.{Stands}
use Rattle.event.specs.declared.events.Event.{Event}
use Rattle.ids.specs.declared.TransactionId.{TransactionId}
use Rattle.ledger.specs.Found.{end_mark}
use Rattle.ledger.specs.Held.{billed, ended, energy, missing_count, missing_of, sessions}
use Rattle.refusal.specs.declared.Refusal.{Refusal}
use Rattle.refusal.specs.declared.Refusal.TheVariants.{BufferTooSmall, OutOfRange}
use Rattle.statement.specs.Lines.{billed_line, open_line, total_line}
use Rattle.std.specs.List.{flat_map}

module _ (events : List Event) where
  -- the sessions that are held from start to end, and the others, in order of arrival
  abbrev pub billed_sessions : List TransactionId
  billed_sessions = filter (billed events) (sessions events)

  abbrev pub open_sessions : List TransactionId
  open_sessions = filter (λ s. not (billed events s)) (sessions events)

  abbrev pub bill_of : (price : ℕ) → TransactionId → List ℕ
  bill_of price s = billed_line price s (energy events s)

  abbrev pub lack_of : TransactionId → List ℕ
  lack_of s = open_line s (missing_count events s) (end_mark (ended events s)) (missing_of events s)

  -- the billed rows, then the open rows, then how many of each
  abbrev pub statement_bytes : (price : ℕ) → List ℕ
  statement_bytes price =
      flat_map (bill_of price) billed_sessions ++ flat_map lack_of open_sessions ++ total_line (length billed_sessions) (length open_sessions)

-- why nothing is written: the price is too high, or it is not and the buffer is too short
abbrev pub Unwritten : List Event → (price : ℕ) → List ℕ → Refusal → Type 0
Unwritten events price buffer refusal =
    ((refusal ≡ OutOfRange) × (largest_price < price))
    ⊎ ((refusal ≡ BufferTooSmall) × (price ≤ largest_price) × (length buffer < length (statement_bytes events price)))

-- the statement stands in the buffer and its length is told, or it is refused and the buffer is as it was
abbrev pub Writes : List Event → (price : ℕ) → (before : List ℕ) → Result ℕ Refusal → (after : List ℕ) → Type 0
Writes events price before (Ok size) after =
    (price ≤ largest_price) × (size ≡ length (statement_bytes events price)) × Stands (statement_bytes events price) before after
Writes events price before (Err refusal) after = (after ≡ before) × Unwritten events price before refusal
