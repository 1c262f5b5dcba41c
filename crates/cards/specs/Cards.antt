-- The worked examples. Assumes nothing.
use Rattle.std.specs.Prelude.{codes}
use Rattle.calendar.specs.Calendar.{Denotes}
use Rattle.cards.specs.Sessions.{SessionCards}
use Rattle.cents.specs.Cents.{Priced}

pub record Cards : Type 0 where
  -- seconds from 2000-01-01T00:00:00Z
  pub nine_in_march : Denotes (codes "2026-03-01T09:00:00Z") 825670800
  pub first_leap_day : Denotes (codes "2000-02-29T00:00:00Z") 5097600
  -- at 350 thousandths for each kWh: Wh and cents
  pub below_half : Priced 14 350 0
  pub above_half : Priced 15 350 1
  pub a_session : Priced 12500 350 438
  -- runs and a statement
  pub sessions : SessionCards
