use Rattle.std.proofs.Common.{refl}
use Rattle.runs.proofs.Laws.{counted_out, unique}
use Rattle.runs.proofs.table.RunTable.new.Goals as goal

pub returns : goal.returns
returns c = record { empty = refl; unique = unique; counted_out = counted_out }
