-- What a table of runs holds. Assumes nothing.
use Rattle.std.specs.Prelude.{List, take}
use Rattle.runs.specs.declared.run.Run.{Run}
use Rattle.runs.specs.declared.table.RunTable.{RunTable}

-- the runs in a table
abbrev pub runs_in : RunTable → List Run
runs_in table = take table.count table.runs
