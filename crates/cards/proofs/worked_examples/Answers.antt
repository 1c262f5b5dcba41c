use Rattle.std.proofs.Common.{codes, refl, arith}
use Rattle.calendar.specs.Calendar.{Denotes, month_length, sum, text_of}
use Rattle.decimal.specs.Decimal.{fixed}
use Rattle.cards.proofs.SessionCards.{session_cards}
use Rattle.cards.specs.Cards.{Cards}
use Rattle.cards.proofs.worked_examples.Goals as goal

nine_in_march : Denotes (codes "2026-03-01T09:00:00Z") 825670800
unfolding month_length sum text_of fixed
nine_in_march = record {
  civil = record { year = 2026; month = 3; day = 1; hour = 9; minute = 0; second = 0 };
  lawful = omega arith;
  written = refl;
  counted = refl;
}

first_leap_day : Denotes (codes "2000-02-29T00:00:00Z") 5097600
unfolding month_length sum text_of fixed
first_leap_day = record {
  civil = record { year = 2000; month = 2; day = 29; hour = 0; minute = 0; second = 0 };
  lawful = omega arith;
  written = refl;
  counted = refl;
}

cards : Cards
cards = record {
  nine_in_march = nine_in_march;
  first_leap_day = first_leap_day;
  below_half = omega arith;
  above_half = omega arith;
  a_session = omega arith;
  sessions = session_cards;
}

pub returns : goal.returns
returns c = record { stand = cards; count = omega arith }
