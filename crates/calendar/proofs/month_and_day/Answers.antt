use Rattle.std.proofs.Common.{arith}
use Rattle.calendar.proofs.Months.{months_none, months_more}
use Rattle.calendar.proofs.month_and_day.Goals as goal

pub loop-month-init : goal.loop-month-init
loop-month-init c = omega (arith, months_none c.args.year)

pub loop-month-preserved : goal.loop-month-preserved
loop-month-preserved c = omega (arith, months_more c.args.year c.loop-month.month (omega arith))
