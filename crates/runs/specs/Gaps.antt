-- The numbers between runs. Assumes nothing.
use Rattle.std.specs.Prelude.{ℕ, Bool, not, ◌&&◌, List, [], ◌∷◌, nat_lt}
use Rattle.runs.specs.Stretches.{covers}
use Rattle.runs.specs.declared.run.Run.{Run}

-- the highest number in the runs, 0 where there is none
abbrev pub highest : List Run → ℕ
highest [] = 0
highest (r ∷ []) = r.last
highest (r ∷ (s ∷ rs)) = highest (s ∷ rs)

-- the numbers below the highest that lie in no run
abbrev pub between : List Run → ℕ → Bool
between runs n = nat_lt n (highest runs) && not (covers runs n)
