-- Civil times from 2000 to 2099, the seconds that they stand for, and their text. Assumes nothing.
use Rattle.std.specs.Prelude.{◌≡◌, ℕ, zero, suc, ◌+◌, ◌-◌, ◌*◌, ◌/◌, ◌%◌, ◌≤◌, cond, List, [], ◌∷◌, ◌++◌, ◌==◌}
use Rattle.decimal.specs.Decimal.{fixed}
use Rattle.calendar.specs.declared.Civil.{Civil}

-- the days of a month, 1 to 12: by turns 31 and 30 from January to July, and again from August on;
-- February has 29 in a year divisible by 4, else 28
unfoldable pub month_length : ℕ → ℕ → ℕ
month_length year month = cond (month == 2) (cond (year % 4 == 0) 29 28) (30 + (month + month / 8) % 2)

-- what the first n of f come to
unfoldable pub sum : (ℕ → ℕ) → ℕ → ℕ
sum f zero = 0
sum f (suc n) = sum f n + f n

-- the days of the months before a month of a year
abbrev pub days_before_month : ℕ → ℕ → ℕ
days_before_month year month = sum (λ i. month_length year (i + 1)) (month - 1)

-- the days of a year: those of its twelve months
abbrev pub year_length : ℕ → ℕ
year_length year = days_before_month year 13

-- the days from 2000-01-01 to the first day of a year
abbrev pub days_before_year : ℕ → ℕ
days_before_year year = sum (λ i. year_length (2000 + i)) (year - 2000)

-- the calendar's civil times: of the years 2000 to 2099
pub record Lawful (c : Civil) : Type 0 where
  pub year_from : 2000 ≤ c.year
  pub year_to : c.year ≤ 2099
  pub month_from : 1 ≤ c.month
  pub month_to : c.month ≤ 12
  pub day_from : 1 ≤ c.day
  pub day_to : c.day ≤ month_length c.year c.month
  pub hour_to : c.hour ≤ 23
  pub minute_to : c.minute ≤ 59
  pub second_to : c.second ≤ 59

-- the whole days from 2000-01-01
abbrev pub day_of : Civil → ℕ
day_of c = days_before_year c.year + (days_before_month c.year c.month + (c.day - 1))

-- the whole seconds from 2000-01-01T00:00:00Z
abbrev pub second_of : Civil → ℕ
second_of c = ((day_of c * 24 + c.hour) * 60 + c.minute) * 60 + c.second

-- the second of 2099-12-31T23:59:59Z
abbrev pub last_second : ℕ
last_second = 3_155_759_999

-- YYYY-MM-DDTHH:MM:SSZ: 45 is '-', 84 'T', 58 ':' and 90 'Z'
unfoldable pub text_of : Civil → List ℕ
text_of c =
    fixed 4 c.year
    ++ (45 ∷ (fixed 2 c.month
    ++ (45 ∷ (fixed 2 c.day
    ++ (84 ∷ (fixed 2 c.hour ++ (58 ∷ (fixed 2 c.minute ++ (58 ∷ (fixed 2 c.second ++ (90 ∷ [])))))))))))

-- the text is that of second s: some lawful civil time is written so, and is that second
pub record Denotes (text : List ℕ) (s : ℕ) : Type 0 where
  pub civil : Civil
  pub lawful : Lawful civil
  pub written : text ≡ text_of civil
  pub counted : s ≡ second_of civil

-- the text denotes no second
abbrev pub NoSecond : List ℕ → Type 0
NoSecond text = (s : ℕ) → Denotes text s → ⊥

-- no text denotes second s
abbrev pub NoText : ℕ → Type 0
NoText s = (text : List ℕ) → Denotes text s → ⊥

-- the text denotes s and no other second: reading it gives s
abbrev pub ReadsBack : List ℕ → ℕ → Type 0
ReadsBack text s = (other : ℕ) → Denotes text other → other ≡ s

-- s is denoted by this text and by no other: writing s gives the text, and another text is another second
abbrev pub WritesBack : List ℕ → ℕ → Type 0
WritesBack text s = (other : List ℕ) → Denotes other s → other ≡ text
