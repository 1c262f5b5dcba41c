-- The verdict on a text. Assumes nothing.
use Rattle.std.specs.Prelude.{◌≡◌, ℕ, ◌<◌, ◌≤◌, ◌⊎◌, List, length, Result, MatchResult}
use Rattle.json_text.specs.Beginnings.{Deep, IsJson}
use Rattle.refusal.specs.declared.Refusal.{Refusal}
use Rattle.refusal.specs.declared.Refusal.TheVariants.{NotJson, TextTooLong, TooDeep}

-- the most bytes that a text may have
abbrev pub longest : ℕ
longest = 1024

-- JSON, and neither too long nor too deep
abbrev pub Accepted : List ℕ → Type 0
Accepted text = (length text ≤ longest) × IsJson text × (Deep text → ⊥)

-- the length decides first; within it, too deep comes before what is not JSON
abbrev pub Refused : List ℕ → Refusal → Type 0
Refused text why =
    ((why ≡ TextTooLong) × (longest < length text))
    ⊎ (((why ≡ TooDeep) × (length text ≤ longest) × Deep text)
    ⊎ ((why ≡ NotJson) × (length text ≤ longest) × (IsJson text → ⊥) × (Deep text → ⊥)))

abbrev pub Fits : List ℕ → Result (Unit {0}) Refusal → Type 0
Fits text verdict = MatchResult verdict (λ _. Accepted text) (Refused text)
