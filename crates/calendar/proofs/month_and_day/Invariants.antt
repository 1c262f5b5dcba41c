use Rattle.std.proofs.Common.{◌≡◌, ◌+◌}
use Rattle.calendar.specs.Calendar.{days_before_month}
use Rattle.calendar.proofs.month_and_day.Given as goal

-- what is left of the day counts from this month on
abbrev pub invariant-loop-month : goal.invariant-loop-month
invariant-loop-month l = days_before_month l.year l.month + l.rest ≡ l.day_of_year
