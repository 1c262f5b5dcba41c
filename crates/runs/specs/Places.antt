-- Where a number goes among runs. Assumes nothing.
use Rattle.std.specs.Prelude.{ℕ, suc, ◌+◌, ◌<◌, ◌≤◌, List, length, take, slice_index_or}
use Rattle.runs.specs.declared.run.Run.{Run}
use Rattle.std.specs.List.{AllByRecursion}

module _ (runs : List Run) (n place : ℕ) where
  -- each run before the place ends before the number, with another number between
  abbrev pub Clear : Type 0
  Clear = (place ≤ length runs) × AllByRecursion (λ r. r.last + 2 ≤ n) (take place runs)

  -- the run at the place has the number, or it is a neighbour of the number
  pub record Touches : Type 0 where
    pub clear : Clear
    pub inside : place < length runs
    pub begins : (d : Run) → (slice_index_or runs place d).first ≤ suc n
    pub ends : (d : Run) → n ≤ suc (slice_index_or runs place d).last

  -- the number lies between the runs before the place and those from the place on, and touches none
  pub record Between : Type 0 where
    pub clear : Clear
    pub apart : (d : Run) → place < length runs → n + 2 ≤ (slice_index_or runs place d).first

  -- the first place whose run does not end before the number
  pub record Place : Type 0 where
    pub clear : Clear
    pub here : (d : Run) → place < length runs → n ≤ suc (slice_index_or runs place d).last
