-- The form YYYY-MM-DDTHH:MM:SSZ, by places of the text. Assumes nothing.
use Rattle.std.specs.Prelude.{◌≡◌, ℕ, ◌+◌, ◌^◌, ◌<◌, List, ◌++◌, length, take, drop, ◌≢◌, slice_index_or}
use Rattle.decimal.specs.Decimal.{fixed}
use Rattle.calendar.specs.declared.Civil.{Civil}
use Rattle.calendar.specs.Calendar.{Lawful, text_of}

-- there are 20 bytes, and the marks stand in their places
pub record Marked (text : List ℕ) : Type 0 where
  pub long : length text ≡ 20
  pub after_year : slice_index_or text 4 0 ≡ 45
  pub after_month : slice_index_or text 7 0 ≡ 45
  pub after_day : slice_index_or text 10 0 ≡ 84
  pub after_hour : slice_index_or text 13 0 ≡ 58
  pub after_minute : slice_index_or text 16 0 ≡ 58
  pub after_second : slice_index_or text 19 0 ≡ 90

-- the w bytes from a place on are n in w digits
pub record Field (text : List ℕ) (at w n : ℕ) : Type 0 where
  pub below : n < 10 ^ w
  pub digits : take w (drop at text) ≡ fixed w n

-- the text is not that of a lawful civil time
abbrev pub NoCivil : List ℕ → Type 0
NoCivil text = (c : Civil) → Lawful c → text ≢ text_of c

-- the text, with n in w digits from a place on
abbrev pub with_digits : List ℕ → ℕ → ℕ → ℕ → List ℕ
with_digits text at w n = take at text ++ (fixed w n ++ drop (at + w) text)
