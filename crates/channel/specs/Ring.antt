-- What a ring holds, and what its calls do. Assumes nothing.
use Rattle.std.specs.Prelude.{◌≡◌, ℕ, ◌-◌, ◌<◌, ◌≤◌, List, [], ◌∷◌, ◌++◌, length, drop, Some, None, Ok, Err, Option, Result}
use Rattle.channel.specs.Laws.{Meaning}
use Rattle.channel.specs.Places.{most_places, places, queue}
use Rattle.channel.specs.declared.faults.Full.{Full}
use Rattle.channel.specs.declared.ring.Ring.{Ring}

abbrev pub ring_layer : ℕ
ring_layer = 1

-- a ring as its owner sees it
pub record Contents (Item : Type 0) : Type 0 where
  -- the memory that it was lent
  pub memory : List Item
  -- the items that wait, the oldest first
  pub waiting : List Item

abbrev pub contents : {Item : Type 0} → Ring Item → Contents Item
contents ring =
    record { memory = ring.memory.now; waiting = queue ring.memory.now ring.first ring.count }

module _ {Item : Type 0} where
  -- the free count is the free places, and a ring refuses by itself
  abbrev pub ring_meaning : Contents Item → Meaning Item
  ring_meaning ring =
      record {
        waiting = ring.waiting;
        free = places ring.memory - length ring.waiting;
        refuser = ring_layer;
      }

  -- the memory is as long as it was, and past the used places each is as it was
  pub record Kept (before after : Contents Item) : Type 0 where
    pub long : length after.memory ≡ length before.memory
    pub rest : drop most_places after.memory ≡ drop most_places before.memory

  -- the item stands last, behind all that waited
  pub record Puts (before : Contents Item) (item : Item) (after : Contents Item) : Type 0 where
    pub room : length before.waiting < places before.memory
    pub last : after.waiting ≡ before.waiting ++ item ∷ []
    pub kept : Kept before after

  -- no place is free: the ring refuses and is as it was
  pub record TurnedAway (before : Contents Item) (fault : Full) (after : Contents Item) : Type 0 where
    pub full : length before.waiting ≡ places before.memory
    pub by : fault.layer ≡ ring_layer
    pub same : after ≡ before

  -- what a ring's send does
  abbrev pub RingSends : Contents Item → Item → Result (Unit {0}) Full → Contents Item → Type 0
  RingSends before item (Ok _) after = Puts before item after
  RingSends before item (Err fault) after = TurnedAway before fault after

  -- the one that waited longest is given and waits no more; the memory is as it was
  pub record Takes (before : Contents Item) (item : Item) (after : Contents Item) : Type 0 where
    pub first : before.waiting ≡ item ∷ after.waiting
    pub same_memory : after.memory ≡ before.memory

  -- nothing waits, and all is as it was
  pub record HasNothing (before after : Contents Item) : Type 0 where
    pub none : before.waiting ≡ []
    pub same : after ≡ before

  -- what a ring's receive does
  abbrev pub RingReceives : Contents Item → Option Item → Contents Item → Type 0
  RingReceives before (Some item) after = Takes before item after
  RingReceives before None after = HasNothing before after

  -- the oldest of what waits stands at the used place i
  pub record Starts (ring : Contents Item) (i : ℕ) : Type 0 where
    pub low : i ≤ places ring.memory
    pub within : 0 < places ring.memory → i < places ring.memory
    pub here : ring.waiting ≡ queue ring.memory i (length ring.waiting)

  -- a ring that was just opened over the memory
  pub record Opened (memory : List Item) (ring : Contents Item) : Type 0 where
    pub lent : ring.memory ≡ memory
    pub empty : ring.waiting ≡ []
