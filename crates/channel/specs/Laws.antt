-- What a channel means to those who use it, and the laws that every channel keeps. Assumes nothing.
use Rattle.std.specs.Prelude.{◌≡◌, ℕ, ◌+◌, ◌<◌, ◌≤◌, ◌⊎◌, List, IfSome, Ok, Err, Option, Result}
use Rattle.channel.specs.Members.{In}
use Rattle.channel.specs.declared.faults.Full.{Full}

-- what is known of a channel from outside
pub record Meaning (Item : Type 0) : Type 0 where
  -- the items that wait in it
  pub waiting : List Item
  -- the free count: a send is refused exactly at 0
  pub free : ℕ
  -- the layer that would refuse now
  pub refuser : ℕ

module _ {Item : Type 0} (before : Meaning Item) where
  -- an accepted send of the item; the item itself may be lost, doubled or put anywhere
  pub record Accepted (item : Item) (after : Meaning Item) : Type 0 where
    pub was_open : 0 < before.free
    -- what waits now waited before or is the one sent
    pub waits : (x : Item) → In x after.waiting → In x before.waiting ⊎ (x ≡ item)
    -- the free count falls by at most 1, and may rise
    pub falls : before.free ≤ after.free + 1

  -- a refused send, and the layer that its fault names
  pub record Refused (layer : ℕ) (after : Meaning Item) : Type 0 where
    pub closed : before.free ≡ 0
    pub by : layer ≡ before.refuser
    pub same_waiting : after.waiting ≡ before.waiting
    pub same_free : after.free ≡ before.free

  -- what a send of the item does
  abbrev pub Sends : Item → Result (Unit {0}) Full → Meaning Item → Type 0
  Sends item (Ok _) after = Accepted item after
  Sends item (Err fault) after = Refused fault.layer after

  -- what a receive does; which item it gives, if any, is left open
  pub record Receives (given : Option Item) (after : Meaning Item) : Type 0 where
    -- what is given waited before
    pub gives : IfSome given (λ x. In x before.waiting)
    -- what waits now waited before
    pub waits : (x : Item) → In x after.waiting → In x before.waiting
    -- the free count does not fall
    pub free : before.free ≤ after.free
