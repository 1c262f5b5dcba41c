use Rattle.std.proofs.Common.{◌≡◌, ◌-◌, ◌≤◌, take}
use Rattle.layers.specs.Below.{Took}
use Rattle.layers.proofs.spool.Spool.pass_down.Given as goal

-- below took the oldest one by one, and what is held is as it was
abbrev pub invariant-loop-passed : goal.invariant-loop-passed
invariant-loop-passed g l =
    Took g.C.Channel l.initial.self.below (take l.passed l.initial.self.held.items) l.self.below
    × (l.self.held ≡ l.initial.self.held)
    × (l.passed ≤ l.count)

abbrev pub decreases-loop-passed : goal.decreases-loop-passed
decreases-loop-passed g l = l.count - l.passed
