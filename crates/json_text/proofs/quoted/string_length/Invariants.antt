use Rattle.std.proofs.Common.{◌≡◌, ◌+◌, ◌≤◌, length}
use Rattle.json_text.specs.Parts.{string_length}
use Rattle.json_text.proofs.quoted.string_length.Given as goal

abbrev pub invariant-loop-left : goal.invariant-loop-left
invariant-loop-left l = (string_length l.s + length l.left ≡ string_length l.left + length l.s) × (length l.left ≤ length l.s)

abbrev pub decreases-loop-left : goal.decreases-loop-left
decreases-loop-left l = length l.left
