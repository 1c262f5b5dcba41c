-- What is said of bytes: that they are JSON, too deep, or not JSON. Assumes nothing.
use Rattle.std.specs.Prelude.{◌≡◌, ℕ, ◌<◌, ◌≤◌, ◌⊎◌, List, length, take, Result, MatchResult}
use Rattle.json_text.specs.Beginnings.{Deep, IsJson, deepest}
use Rattle.json_text.specs.Machine.{Kind, Mode, State, run}
use Rattle.json_text.specs.Machine.State.{dead, live}
use Rattle.json_text.specs.Scanning.{mode_of, stack}
use Rattle.json_text.specs.declared.scanner.Scanner.{Scanner}
use Rattle.refusal.specs.declared.Refusal.{Refusal}
use Rattle.refusal.specs.declared.Refusal.TheVariants.{NotJson, TooDeep}

-- decided from the left: too deep where a bracket or a brace that could stand there goes too deep, whatever follows; else JSON or not
abbrev pub Judged : List ℕ → Result (Unit {0}) Refusal → Type 0
Judged text r =
    MatchResult r (λ _. IsJson text × (Deep text → ⊥))
    (λ why. ((why ≡ TooDeep) × Deep text) ⊎ ((why ≡ NotJson) × (IsJson text → ⊥) × (Deep text → ⊥)))

-- the machine's state that the scanner stands for
abbrev pub state_of : Scanner → State
state_of s = live (mode_of s.mode) (stack s.containers.now.items)

-- the machine is alive and no deeper than allowed
abbrev pub Shallow : State → Type 0
Shallow dead = Unit {0}
Shallow (live m k) = length k ≤ deepest

pub record TooFar (s : State) : Type 0 where
  pub mode : Mode
  pub kinds : List Kind
  pub is : s ≡ live mode kinds
  pub deep : deepest < length kinds

-- one byte more: the next state, or why there is none that is allowed
abbrev pub Stepped : State → Result (Unit {0}) Refusal → State → Type 0
Stepped to r now-is =
    MatchResult r (λ _. now-is ≡ to) (λ why. ((why ≡ NotJson) × (to ≡ dead)) ⊎ ((why ≡ TooDeep) × TooFar to))

-- from one state to another over the first n bytes, never too deep on the way
pub record Passes (from : State) (n : ℕ) (bytes : List ℕ) (to : State) : Type 0 where
  pub runs : run from (take n bytes) ≡ to
  pub shallow : (m : ℕ) → m ≤ n → Shallow (run from (take m bytes))
