use Rattle.std.proofs.Common.{sym, arith}
use Rattle.calendar.proofs.Months.{months_none, months_more}
use Rattle.calendar.proofs.days_before_month.Goals as goal

pub loop-earlier-init : goal.loop-earlier-init
loop-earlier-init c = (sym (months_none c.args.year), omega arith)

pub loop-earlier-preserved : goal.loop-earlier-preserved
loop-earlier-preserved c = omega (arith, months_more c.args.year c.loop-earlier.earlier (omega arith))
