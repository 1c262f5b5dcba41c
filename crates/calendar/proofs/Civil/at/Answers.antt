use Rattle.std.proofs.Common.{◌/◌, arith}
use Rattle.calendar.proofs.Years.{year_found}
use Rattle.calendar.proofs.Civil.at.Goals as goal

pub overflow_sub-day : goal.overflow_sub-day
overflow_sub-day c = omega (arith, year_found (c.args.second / 86_400) (omega arith))

pub month_and_day-month-requires : goal.month_and_day-month-requires
month_and_day-month-requires c = omega (arith, year_found (c.args.second / 86_400) (omega arith))

pub returns : goal.returns
returns c = omega (arith, year_found (c.args.second / 86_400) (omega arith))
