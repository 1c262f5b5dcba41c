use Rattle.frame.proofs.Looks.{Walked, Within, left_length}
use Rattle.frame.proofs.walk.collect.Given as goal

abbrev pub invariant-loop-left : goal.invariant-loop-left
invariant-loop-left g l = Within l.s l.left × Walked g.C.Collects.so_far l.s l.initial.found l.found l.left

abbrev pub decreases-loop-left : goal.decreases-loop-left
decreases-loop-left g l = left_length l.left
