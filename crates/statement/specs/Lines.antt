-- The lines of a statement, as bytes. Assumes nothing.
use Rattle.std.specs.Prelude.{ℕ, List, [], ◌∷◌, ◌++◌, codes, decimal}
use Rattle.cents.specs.Cents.{cents_for}
use Rattle.ids.specs.Ids.{id_text}
use Rattle.ids.specs.declared.TransactionId.{TransactionId}
use Rattle.ledger.specs.declared.found.EndMark.{EndMark}
use Rattle.ledger.specs.declared.found.EndMark.TheVariants.{Absent, Held}
use Rattle.runs.specs.declared.run.Run.{Run}
use Rattle.std.specs.List.{flat_map}

-- a space, and a line feed
abbrev pub space : ℕ
space = 32

abbrev pub line_feed : ℕ
line_feed = 10

-- the transaction id, after the line's letter and a space
abbrev pub head : ℕ → TransactionId → List ℕ
head letter s = letter ∷ (space ∷ id_text s.station s.session)

-- `B`, the id, the energy in Wh and the cents
abbrev pub billed_line : (price : ℕ) → TransactionId → (energy : ℕ) → List ℕ
billed_line price s energy =
    head 66 s ++ (space ∷ decimal energy) ++ (space ∷ decimal (cents_for energy price)) ++ line_feed ∷ []

-- the first and the last number of a stretch
abbrev pub stretch_text : Run → List ℕ
stretch_text r = decimal r.first ++ 45 ∷ decimal r.last

-- the stretches with commas between, or a hyphen where there is none
abbrev pub stretches_text : List Run → List ℕ
stretches_text [] = 45 ∷ []
stretches_text (r ∷ rs) = stretch_text r ++ flat_map (λ q. 44 ∷ stretch_text q) rs

abbrev pub end_text : EndMark → List ℕ
end_text Held = codes "held"
end_text Absent = codes "absent"

-- `O`, the id, how many numbers are missing, whether the end is held, and the missing stretches
abbrev pub open_line : TransactionId → (count : ℕ) → EndMark → List Run → List ℕ
open_line s count end missing =
    head 79 s ++ (space ∷ decimal count) ++ (space ∷ end_text end) ++ (space ∷ stretches_text missing) ++ line_feed ∷ []

-- `T`, how many rows are billed and how many are open
abbrev pub total_line : (billed unbilled : ℕ) → List ℕ
total_line billed unbilled = (84 ∷ (space ∷ decimal billed)) ++ (space ∷ decimal unbilled) ++ line_feed ∷ []
