use Rattle.std.proofs.Common.{length, vec_items}
use Rattle.conformance.proofs.Pieces.{SoFar}
use Rattle.conformance.proofs.encoded.decode.Given as goal

abbrev pub invariant-loop-rest : goal.invariant-loop-rest
invariant-loop-rest l = SoFar l.written (vec_items l.text) l.rest

abbrev pub decreases-loop-rest : goal.decreases-loop-rest
decreases-loop-rest l = length l.rest
