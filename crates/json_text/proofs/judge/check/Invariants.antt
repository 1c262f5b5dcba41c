use Rattle.std.proofs.Common.{length}
use Rattle.json_text.proofs.Verdicts.{Reached}
use Rattle.json_text.specs.Verdict.{state_of}
use Rattle.json_text.proofs.judge.check.Given as goal

-- the scanner is where the machine is, which has not gone too deep
abbrev pub invariant-loop-left : goal.invariant-loop-left
invariant-loop-left l = Reached l.text l.left (state_of l.scanner)

abbrev pub decreases-loop-left : goal.decreases-loop-left
decreases-loop-left l = length l.left
