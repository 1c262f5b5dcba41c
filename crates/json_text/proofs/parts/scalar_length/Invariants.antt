use Rattle.std.proofs.Common.{◌≡◌, ◌+◌, length}
use Rattle.json_text.specs.Parts.{scalar_length}
use Rattle.json_text.proofs.parts.scalar_length.Given as goal

abbrev pub invariant-loop-left : goal.invariant-loop-left
invariant-loop-left l = scalar_length l.s + length l.left ≡ scalar_length l.left + length l.s

abbrev pub decreases-loop-left : goal.decreases-loop-left
decreases-loop-left l = length l.left
