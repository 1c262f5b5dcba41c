use Rattle.std.proofs.Common.{◌≡◌, ℕ, ◌-◌, ◌^◌, ◌<◌, ◌≤◌, min, length, get_or, take}
use Rattle.decimal.specs.Decimal.{Digit, value}
use Rattle.decimal.proofs.capped_value.Given as goal

abbrev pub invariant-loop-byte : goal.invariant-loop-byte
invariant-loop-byte l =
    (l.byte-index ≤ length l.digits) × ((i : ℕ) → i < l.byte-index → Digit (get_or l.digits i 0))
    × (l.number ≡ min (value (take l.byte-index l.digits)) (2 ^ 64 - 1))
