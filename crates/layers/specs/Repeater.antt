-- What a repeater's calls do. Assumes nothing.
use Rattle.std.specs.Prelude.{◌≡◌, ℕ, ◌/◌, ◌<◌, ◌≤◌, cond, ◌⊎◌, replicate, Ok, Err, Result, ◌==◌}
use Rattle.channel.specs.Laws.{Meaning}
use Rattle.channel.specs.declared.channel.Channel.{Ghosts as Promises}
use Rattle.channel.specs.declared.faults.Full.{Full}
use Rattle.layers.specs.Below.{Sent, Took, free_of, refuser_of, waiting_in}
use Rattle.layers.specs.Limits.{repeater_layer}

module _ {C Item : Type 0} (channel : Promises C Item) (times : ℕ) where
  -- what waits is below's; below refuses where it is closed, and else the repeater
  abbrev pub repeater_meaning : C → Meaning Item
  repeater_meaning b =
      record {
        waiting = waiting_in channel b;
        free = free_of channel b / times;
        refuser = cond (free_of channel b == 0) (refuser_of channel b) repeater_layer;
      }

  -- below took the item so many times
  pub record Repeats (b : C) (item : Item) (b' : C) : Type 0 where
    pub room : times ≤ free_of channel b
    pub down : Took channel b (replicate times item) b'

  -- below is closed and refused the item
  pub record ClosedBelow (b : C) (item : Item) (fault : Full) (b' : C) : Type 0 where
    pub closed : free_of channel b ≡ 0
    pub refused : Sent channel b item (Err fault) b'

  -- below is open, but not for so many: the repeater refuses, and sends nothing
  pub record TurnedAway (b : C) (fault : Full) (b' : C) : Type 0 where
    pub was_open : 0 < free_of channel b
    pub short : free_of channel b < times
    pub by : fault.layer ≡ repeater_layer
    pub same : b' ≡ b

  -- what a repeater's send does
  abbrev pub RepeaterSends : C → Item → Result (Unit {0}) Full → C → Type 0
  RepeaterSends b item (Ok _) b' = Repeats b item b'
  RepeaterSends b item (Err fault) b' = ClosedBelow b item fault b' ⊎ TurnedAway b fault b'
