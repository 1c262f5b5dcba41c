-- The totals of a sheet. Assumes nothing.
use Rattle.std.specs.Prelude.{◌≡◌, ◌+◌, ◌^◌, ◌≤◌, ◌⊎◌, Option, MatchOption}
use Rattle.sheet.specs.declared.entry.Charge.{Charge}
use Rattle.sheet.specs.declared.totals.Totals.{Totals}

-- no line yet
abbrev pub nothing : Totals
nothing = record { billed = 0; refused = 0; energy = 0; cents = 0 }

-- one line billed
abbrev pub with_charge : Totals → Charge → Totals
with_charge t c = record { billed = t.billed + 1; refused = t.refused; energy = t.energy + c.energy; cents = t.cents + c.cents }

-- one line refused
abbrev pub with_refusal : Totals → Totals
with_refusal t = record { billed = t.billed; refused = t.refused + 1; energy = t.energy; cents = t.cents }

-- some number no longer fits 64 bits
abbrev pub Overflows : Totals → Type 0
Overflows t = (2 ^ 64 ≤ t.billed) ⊎ ((2 ^ 64 ≤ t.refused) ⊎ ((2 ^ 64 ≤ t.energy) ⊎ (2 ^ 64 ≤ t.cents)))

-- the new totals, or none where they would not fit
abbrev pub Becomes : Option Totals → Totals → Type 0
Becomes r t = MatchOption r (Overflows t) (λ u. u ≡ t)
