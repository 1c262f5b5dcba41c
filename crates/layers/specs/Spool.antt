-- What a spool holds, and what its calls do. Assumes nothing.
use Rattle.std.specs.Prelude.{◌≡◌, ◌+◌, ◌-◌, ◌<◌, min, ◌⊎◌, List, [], ◌∷◌, ◌++◌, length, Ok, Err, Option, Result}
use Rattle.channel.specs.Laws.{Meaning}
use Rattle.channel.specs.declared.channel.Channel.{Ghosts as Promises}
use Rattle.channel.specs.declared.faults.Full.{Full}
use Rattle.event.specs.declared.events.Transmission.{Transmission}
use Rattle.layers.specs.Below.{Got, Sent, Took, free_of, waiting_in}
use Rattle.layers.specs.Limits.{largest_free, spool_layer, spool_places}
use Rattle.layers.specs.declared.spool.Spool.{Spool}

-- a spool: the channel below, and the items that it holds itself, the oldest first
pub record Spooled (C Item : Type 0) : Type 0 where
  pub below : C
  pub held : List Item

abbrev pub spooled : {C : Type 0} → Spool C → Spooled C Transmission
spooled spool = record { below = spool.below; held = spool.held.items }

module _ {C Item : Type 0} (channel : Promises C Item) where
  -- below's items wait, then the held; the free places are its own and below's; it refuses by itself
  abbrev pub spool_meaning : Spooled C Item → Meaning Item
  spool_meaning s =
      record {
        waiting = waiting_in channel s.below ++ s.held;
        free = min (spool_places - length s.held + free_of channel s.below) largest_free;
        refuser = spool_layer;
      }

  -- the oldest were passed down while any was held and below was open
  pub record Passes (before after : Spooled C Item) : Type 0 where
    -- those that were passed down, in the order in which below took them
    pub passed : List Item
    pub down : Took channel before.below passed after.below
    -- they were the oldest, and the rest is held still
    pub oldest : before.held ≡ passed ++ after.held
    -- it ended since nothing was held any more, or below was closed
    pub ends : (after.held ≡ []) ⊎ (free_of channel after.below ≡ 0)

  module _ (before : Spooled C Item) (item : Item) where
    -- below is open and nothing is held: the item goes below
    pub record Forwarded (r : Result (Unit {0}) Full) (after : Spooled C Item) : Type 0 where
      pub none_held : before.held ≡ []
      pub was_open : 0 < free_of channel before.below
      pub sent : Sent channel before.below item r after.below
      pub same : after.held ≡ before.held

    -- below is closed and the spool has a place: the item is held as the newest
    pub record Holds (r : Result (Unit {0}) Full) (after : Spooled C Item) : Type 0 where
      pub closed : free_of channel before.below ≡ 0
      pub room : length before.held < spool_places
      pub newest : after.held ≡ before.held ++ item ∷ []
      pub same : after.below ≡ before.below
      pub done : r ≡ Ok tt

    -- below is closed and the spool has no place: it refuses
    pub record TurnedAway (r : Result (Unit {0}) Full) (after : Spooled C Item) : Type 0 where
      pub closed : free_of channel before.below ≡ 0
      pub full : length before.held ≡ spool_places
      pub same : after ≡ before
      pub by : r ≡ Err (record { layer = spool_layer })

    -- where the item goes
    abbrev pub Goes : Result (Unit {0}) Full → Spooled C Item → Type 0
    Goes r after = Forwarded r after ⊎ (Holds r after ⊎ TurnedAway r after)

  -- what a spool's send does
  pub record SpoolSends (before : Spooled C Item) (item : Item) (r : Result (Unit {0}) Full) (after : Spooled C Item) : Type 0 where
    pub passing : Spooled C Item
    pub passes : Passes before passing
    pub goes : Goes passing item r after

  -- what a spool's receive does: it passes down, and then receives below
  pub record SpoolReceives (before : Spooled C Item) (r : Option Item) (after : Spooled C Item) : Type 0 where
    pub passing : Spooled C Item
    pub passes : Passes before passing
    pub got : Got channel passing.below r after.below
    pub same : after.held ≡ passing.held
