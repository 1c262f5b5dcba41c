-- The places of a ring, and what waits in them. Assumes nothing.
use Rattle.std.specs.Prelude.{ℕ, min, List, ◌++◌, length, take, drop}

-- a ring uses no more than so many places of the memory that it is lent
abbrev pub most_places : ℕ
most_places = 4096

module _ {Item : Type 0} where
  -- how many places of the memory a ring uses: those from the start on
  abbrev pub places : List Item → ℕ
  places memory = min (length memory) most_places

  -- the places read from number i to their end, and then round from their start
  abbrev pub turned : ℕ → List Item → List Item
  turned i xs = drop i xs ++ take i xs

  -- what waits, the oldest first: count items from place first on, round the used places
  abbrev pub queue : (memory : List Item) (first count : ℕ) → List Item
  queue memory first count = take count (turned first (take most_places memory))
