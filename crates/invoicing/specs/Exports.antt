-- What the C functions answer and store. Assumes nothing.
use Rattle.std.specs.Prelude.{◌≡◌, ℕ, List, Result, MatchResult}
use Rattle.cents.specs.Cents.{Charges}
use Rattle.event.specs.declared.events.Transmission.{Transmission}
use Rattle.frame_reader.specs.Frame.{OnlyAnswer, Reads}
use Rattle.refusal.specs.Numbers.{number_for}
use Rattle.refusal.specs.declared.Refusal.{Refusal}

-- `was` and `is` are what the caller's number held before and holds after, and `code` is the answer
pub record Charged (watt-hours price was is code : ℕ) : Type 0 where
  pub answer : Result ℕ Refusal
  -- the answer of the cents rule
  pub rule : Charges watt-hours price answer
  -- cents are stored under 0; after a refusal's number nothing has changed
  pub told : MatchResult answer (λ cents. (code ≡ 0) × (is ≡ cents)) (λ refusal. (code ≡ number_for refusal) × (is ≡ was))

-- the reader's answer to the text, which is the only right one, as a number
pub record Checked (bytes : List ℕ) (code : ℕ) : Type 0 where
  pub answer : Result Transmission Refusal
  pub rule : Reads bytes answer
  pub only : OnlyAnswer bytes answer
  -- 0 stands for a frame
  pub told : MatchResult answer (λ _. code ≡ 0) (λ refusal. code ≡ number_for refusal)
