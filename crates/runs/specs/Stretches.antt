-- Runs: the maximal stretches of the numbers that pass a test. Assumes nothing.
use Rattle.std.specs.Prelude.{◌≡◌, ℕ, zero, suc, ◌+◌, ◌<◌, ◌≤◌, Bool, true, false, cond, ◌&&◌, ◌||◌, List, [], ◌∷◌, length, ◌==◌, nat_le, Ok, Err, Result}
use Rattle.refusal.specs.declared.Refusal.{Refusal}
use Rattle.refusal.specs.declared.Refusal.TheVariants.{TooManyRuns}
use Rattle.runs.specs.declared.run.Run.{Run}
use Rattle.std.specs.List.{AllByRecursion}

-- a table of runs has so many places
abbrev pub most_runs : ℕ
most_runs = 16

-- the number lies in the run
abbrev pub within : ℕ → Run → Bool
within n r = nat_le r.first n && nat_le n r.last

-- the number lies in one of the runs
abbrev pub covers : List Run → ℕ → Bool
covers [] n = false
covers (r ∷ rs) n = within n r || covers rs n

-- the runs stand in rising order from `low` on, with a number between neighbours that is in neither
abbrev pub ascending : ℕ → List Run → Bool
ascending low [] = true
ascending low (r ∷ rs) = nat_le low r.first && (nat_le r.first r.last && ascending (r.last + 2) rs)

-- a stretch of numbers that pass, as long as it can be
pub record Maximal (passes : ℕ → Bool) (r : Run) : Type 0 where
  pub some : r.first ≤ r.last
  pub inside : (n : ℕ) → r.first ≤ n → n ≤ r.last → passes n ≡ true
  pub not_before : (n : ℕ) → suc n ≡ r.first → passes n ≡ false
  pub not_after : passes (suc r.last) ≡ false

-- the runs are all the maximal stretches of the numbers that pass, in rising order
pub record Stretches (passes : ℕ → Bool) (runs : List Run) : Type 0 where
  pub rising : ascending 0 runs ≡ true
  pub maximal : AllByRecursion (Maximal passes) runs
  pub complete : (n : ℕ) → passes n ≡ true → covers runs n ≡ true

-- a number in front of stretches above it: it lengthens the first where that begins right after it, else it stands alone
abbrev pub in_front : ℕ → List Run → List Run
in_front n [] = record { first = n; last = n } ∷ []
in_front n (r ∷ rs) =
    cond (r.first == suc n) (record { first = n; last = r.last } ∷ rs) (record { first = n; last = n } ∷ (r ∷ rs))

-- the stretches of the numbers that pass, among the k numbers from `low` on
abbrev pub stretches_from : (ℕ → Bool) → ℕ → ℕ → List Run
stretches_from passes low zero = []
stretches_from passes low (suc k) =
    let above = stretches_from passes (suc low) k in
    cond (passes low) (in_front low above) above

-- the stretches of the numbers that pass, among those below the limit
abbrev pub stretches : (ℕ → Bool) → ℕ → List Run
stretches passes limit = stretches_from passes 0 limit

-- what `stretches` counts out are the maximal stretches, where none passes from the limit on
abbrev pub CountedOut : Type 0
CountedOut = (passes : ℕ → Bool) (limit : ℕ) → ((n : ℕ) → limit ≤ n → passes n ≡ false) → Stretches passes (stretches passes limit)

-- there is one list of the maximal stretches
abbrev pub Unique : Type 0
Unique = (passes : ℕ → Bool) (runs others : List Run) → Stretches passes runs → Stretches passes others → runs ≡ others

-- the numbers that pass, and n
abbrev pub with_number : (ℕ → Bool) → ℕ → ℕ → Bool
with_number passes n m = passes m || m == n

-- what adding the number n to the runs does: they are then the runs of their numbers and n;
-- or, where those would be more runs than there are places, it is refused and nothing changes
abbrev pub Adds : List Run → ℕ → Result (Unit {0}) Refusal → List Run → Type 0
Adds before n (Ok done) after = Stretches (with_number (covers before) n) after
Adds before n (Err refusal) after =
    (refusal ≡ TooManyRuns) × (after ≡ before) × ((more : List Run) × Stretches (with_number (covers before) n) more × (most_runs < length more))

-- how many numbers below the limit pass
abbrev pub counted : (ℕ → Bool) → ℕ → ℕ
counted passes zero = 0
counted passes (suc n) = counted passes n + cond (passes n) 1 0

-- so many numbers lie in the runs, counted up to any limit that is above them all
abbrev pub Counts : List Run → ℕ → Type 0
Counts runs size = (limit : ℕ) → ((n : ℕ) → limit ≤ n → covers runs n ≡ false) → size ≡ counted (covers runs) limit
