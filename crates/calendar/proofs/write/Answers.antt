use Rattle.std.proofs.Common.{refl, arith}
use Rattle.calendar.specs.Calendar.{Denotes}
use Rattle.calendar.proofs.Denoted.{reads_back, no_text}
use Rattle.calendar.proofs.write.Goals as goal

pub returns-then-second-gt-LAST_SECOND : goal.returns-then-second-gt-LAST_SECOND
returns-then-second-gt-LAST_SECOND c = record { denotes = (refl, omega arith, no_text c.args.second (omega arith)); reads_back = tt }

pub returns : goal.returns
returns c =
    let d : Denotes c.text.result c.args.second = record { civil = c.at.result; lawful = c.at.ensures.lawful; written = c.text.ensures; counted = c.at.ensures.counted } in
    record { denotes = (omega arith, d); reads_back = reads_back c.text.result c.args.second d }
