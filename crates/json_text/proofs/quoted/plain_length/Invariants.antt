use Rattle.std.proofs.Common.{length}
use Rattle.json_text.proofs.Plains.{PlainFront}
use Rattle.json_text.proofs.quoted.plain_length.Given as goal

abbrev pub invariant-loop-left : goal.invariant-loop-left
invariant-loop-left l = PlainFront l.s l.left

abbrev pub decreases-loop-left : goal.decreases-loop-left
decreases-loop-left l = length l.left
