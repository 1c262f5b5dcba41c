use Rattle.std.proofs.Common.{◌≡◌, ◌+◌, ◌≤◌, get_or, take}
use Rattle.runs.proofs.Gaps.{gaps_from}
use Rattle.runs.proofs.Tables.{some_run}
use Rattle.runs.specs.Contents.{runs_in}
use Rattle.runs.proofs.table.RunTable.gaps.Given as goal

abbrev pub invariant-loop-run : goal.invariant-loop-run
invariant-loop-run l = record {
  found : runs_in l.gaps ≡ gaps_from 0 (take (l.run-index + 1) (runs_in l.self));
  last : l.below ≡ get_or (runs_in l.self) l.run-index some_run;
  few : l.gaps.count ≤ l.run-index + 1;
}
