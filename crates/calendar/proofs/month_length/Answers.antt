use Rattle.std.proofs.Common.{arith}
use Rattle.std.proofs.lemmas.Bool.Decides.{nat_tests}
use Rattle.calendar.specs.Calendar.{month_length}
use Rattle.calendar.proofs.month_length.Goals as goal

pub returns-then-year-eq0 : goal.returns-then-year-eq0
unfolding month_length
returns-then-year-eq0 c = grind (arith, nat_tests)

pub returns-else-year-eq0 : goal.returns-else-year-eq0
unfolding month_length
returns-else-year-eq0 c = grind (arith, nat_tests)

pub returns-else-month-eq2 : goal.returns-else-month-eq2
unfolding month_length
returns-else-month-eq2 c = grind (arith, nat_tests)
