-- The two parts of a statement, row by row. Assumes nothing.
use Rattle.std.specs.Prelude.{ℕ, ◌≤◌, Bool, false, cond, List, [], slice_get}
use Rattle.event.specs.Lawful.{largest_register}
use Rattle.event.specs.declared.events.Event.{Event}
use Rattle.ids.specs.declared.TransactionId.{TransactionId}
use Rattle.ledger.specs.Held.{billed, sessions}
use Rattle.ledger.specs.Rows.{runs_in}
use Rattle.ledger.specs.declared.found.Found.{Found}
use Rattle.ledger.specs.declared.found.Found.TheVariants as found
use Rattle.statement.specs.Lines.{billed_line, open_line}
use Rattle.statement.specs.Statement.{bill_of, lack_of}
use Rattle.statement.specs.declared.part.Part.{Part}
use Rattle.statement.specs.declared.part.Part.TheVariants.{Billed, Open}
use Rattle.std.specs.List.{flat_map}
use Rattle.std.specs.Option.{option_map_or}

-- what a session's row gives to the part: its line, or nothing where it belongs to the other
abbrev pub part_text : List Event → (price : ℕ) → Part → TransactionId → List ℕ
part_text events price Billed s = cond (billed events s) (bill_of events price s) []
part_text events price Open s = cond (billed events s) [] (lack_of events s)

-- the lines of a part
abbrev pub rows_text : List Event → (price : ℕ) → Part → List TransactionId → List ℕ
rows_text events price part rows = flat_map (part_text events price part) rows

abbrev pub part_lines : List Event → (price : ℕ) → Part → List ℕ
part_lines events price part = rows_text events price part (sessions events)

-- what the row at the place gives to the part, and whether it is billed; nothing where there is no row
abbrev pub text_at : List Event → (price : ℕ) → Part → (place : ℕ) → List ℕ
text_at events price part place = option_map_or (part_text events price part) (slice_get (sessions events) place) []

abbrev pub billed_at : List Event → (place : ℕ) → Bool
billed_at events place = option_map_or (billed events) (slice_get (sessions events) place) false

-- what a row gives to the part, from what is found in it
abbrev pub found_text : (price : ℕ) → Part → Found → List ℕ
found_text price Billed (found.Billed bill) = billed_line price bill.id bill.energy
found_text price Billed (found.Open lack) = []
found_text price Open (found.Billed bill) = []
found_text price Open (found.Open lack) = open_line lack.id lack.count lack.end (runs_in lack.missing)

-- a bill's energy is one that has a price
abbrev pub Payable : Found → Type 0
Payable (found.Billed bill) = bill.energy ≤ largest_register
Payable (found.Open lack) = Unit {0}
