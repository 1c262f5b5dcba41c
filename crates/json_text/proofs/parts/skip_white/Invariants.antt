use Rattle.std.proofs.Common.{◌≡◌, length}
use Rattle.json_text.specs.Parts.{skip}
use Rattle.json_text.proofs.parts.skip_white.Given as goal

-- what is left still has all that is left after white space
abbrev pub invariant-loop-left : goal.invariant-loop-left
invariant-loop-left l = skip l.left ≡ skip l.s

abbrev pub decreases-loop-left : goal.decreases-loop-left
decreases-loop-left l = length l.left
