use Rattle.std.proofs.Common.{rules}
use Rattle.calendar.specs.Calendar.{Denotes}
use Rattle.calendar.proofs.Denoted.{writes_back}
use Rattle.calendar.proofs.read.Goals as goal

pub returns-clause-writes_back : goal.returns-clause-writes_back
returns-clause-writes_back c =
    let denoted : Denotes c.args.text.now c.seconds.result = search rules in
    writes_back c.args.text.now c.seconds.result denoted
