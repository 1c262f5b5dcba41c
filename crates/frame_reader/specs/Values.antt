-- The forms of the values that are read. Assumes nothing.
use Rattle.std.specs.Prelude.{◌≡◌, ℕ, ◌≤◌, List, decimal, ◌≢◌}
use Rattle.calendar.specs.Calendar.{Denotes}
use Rattle.event.specs.Lawful.{largest_register}
use Rattle.json_text.specs.Grammar.{Json}
use Rattle.json_text.specs.Grammar.Json.{jnumber, jstring}

-- the value is no number that a register could be
abbrev pub NoNumber : Json → Type 0
NoNumber tree = (n : ℕ) → n ≤ largest_register → tree ≢ jnumber (decimal n)

-- the value is a string that denotes the second
pub record TimeIn (tree : Json) (time : ℕ) : Type 0 where
  pub written : List ℕ
  pub is : tree ≡ jstring written
  pub denotes : Denotes written time

abbrev pub NoTime : Json → Type 0
NoTime tree = (time : ℕ) → TimeIn tree time → ⊥
