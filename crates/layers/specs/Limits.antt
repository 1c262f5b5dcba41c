-- The layers' numbers. Assumes nothing.
use Rattle.std.specs.Prelude.{ℕ, min, max}

abbrev pub spool_layer : ℕ
spool_layer = 3

-- how many a spool can hold
abbrev pub spool_places : ℕ
spool_places = 32

-- the largest free count; a larger sum counts as that
abbrev pub largest_free : ℕ
largest_free = 4294967295

abbrev pub repeater_layer : ℕ
repeater_layer = 4

-- how often each item is sent: n, but at least once and at most three times
abbrev pub times_for : ℕ → ℕ
times_for n = max 1 (min n 3)
