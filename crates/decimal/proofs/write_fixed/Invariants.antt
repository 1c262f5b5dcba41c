use Rattle.decimal.proofs.Widths.{Written}
use Rattle.decimal.proofs.write_fixed.Given as goal

abbrev pub invariant-loop-i : goal.invariant-loop-i
invariant-loop-i l = Written l.out l.i l.number l.rest
