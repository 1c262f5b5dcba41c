use Rattle.std.proofs.Common.{arith}
use Rattle.calendar.proofs.Seconds.{day_within}
use Rattle.calendar.proofs.Civil.days.Goals as goal

pub returns : goal.returns
returns c = omega (arith, day_within c.args.self.now c.requires)
