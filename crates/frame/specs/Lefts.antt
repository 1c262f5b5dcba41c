-- How far an object has been gone through, in bytes. Assumes nothing.
use Rattle.std.specs.Prelude.{ℕ, ◌<◌, ◌≤◌, List, length}
use Rattle.std.specs.Borrow.{Bor}
use Rattle.std.specs.ControlFlow.{MatchControlFlow}
use Rattle.std.specs.declared.ops.ControlFlow.{ControlFlow}
use Rattle.std.specs.declared.ops.ControlFlow.TheVariants.{Continue, Break}

-- the bytes that are left
abbrev pub bytes_of : ControlFlow (Bor (List ℕ)) (Bor (List ℕ)) → Bor (List ℕ)
bytes_of (Continue s) = s
bytes_of (Break s) = s

-- fewer bytes than this are left where there are more members
abbrev pub Shorter : ControlFlow (Bor (List ℕ)) (Bor (List ℕ)) → ℕ → Type 0
Shorter left n = MatchControlFlow left (λ s. length s.now < n) (λ s. length s.now ≤ n)
