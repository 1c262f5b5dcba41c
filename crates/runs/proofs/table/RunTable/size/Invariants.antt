use Rattle.std.proofs.Common.{◌≡◌, ◌*◌, ◌≤◌, take}
use Rattle.runs.proofs.Sizes.{total}
use Rattle.runs.proofs.table.RunTable.size.Given as goal

abbrev pub invariant-loop-run : goal.invariant-loop-run
invariant-loop-run l = record { counted : l.numbers ≡ total (take l.run-index l.run-items); bound : l.numbers ≤ 65536 * l.run-index }
