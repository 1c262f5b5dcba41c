use Rattle.std.proofs.Common.{◌≡◌, replicate}
use Rattle.layers.specs.Below.{Took}
use Rattle.layers.proofs.repeater.RepeaterChannel.send.Given as goal

-- below took the item as often as the loop went round
abbrev pub invariant-loop-copy : goal.invariant-loop-copy
invariant-loop-copy g l =
    Took g.C.Channel l.initial.self.below (replicate l._copy l.item) l.self.below
    × (l.self.n ≡ l.initial.self.n)
