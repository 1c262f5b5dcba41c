-- What the hall's channel does under each command. Assumes nothing.
use Rattle.std.specs.Prelude.{◌≡◌, ℕ, ◌-◌, ◌/◌, ◌<◌, List, [], ◌∷◌, ◌++◌, length, drop, Some, None, Ok, Err, Option, Result}
use Rattle.channel.specs.Laws.{Meaning}
use Rattle.channel.specs.Places.{places, turned}
use Rattle.channel.specs.Ring.{contents}
use Rattle.channel.specs.declared.faults.Full.{Full}
use Rattle.hall.specs.declared.carrier.Hall.{Hall}
use Rattle.hall.specs.declared.command.Command.{Command}
use Rattle.hall.specs.declared.command.Command.TheVariants.{Carry, Lose, Double, Reorder, Close}

abbrev pub hall_layer : ℕ
hall_layer = 9

-- the channel as the hall sees it
pub record Carried (Item : Type 0) : Type 0 where
  pub command : Command
  -- how many items it has places for
  pub room : ℕ
  -- the items that wait, the oldest first
  pub waiting : List Item

abbrev pub carried : {Item : Type 0} → Hall Item → Carried Item
carried hall =
    record {
      command = hall.command;
      room = places (contents hall.ring).memory;
      waiting = (contents hall.ring).waiting;
    }

-- any send may be doubled, so the free count is half the free places; a closed channel has none
abbrev pub free_under : Command → (free-places : ℕ) → ℕ
free_under Close n = 0
free_under Carry n = n / 2
free_under Lose n = n / 2
free_under Double n = n / 2
free_under Reorder n = n / 2

module _ {Item : Type 0} where
  abbrev pub free_in : Carried Item → ℕ
  free_in c = free_under c.command (c.room - length c.waiting)

  abbrev pub hall_meaning : Carried Item → Meaning Item
  hall_meaning c = record { waiting = c.waiting; free = free_in c; refuser = hall_layer }

  -- the same channel under another command
  abbrev pub with_command : Carried Item → Command → Carried Item
  with_command c command = record { command = command; room = c.room; waiting = c.waiting }

  -- the same channel with other items waiting
  abbrev pub with_waiting : Carried Item → List Item → Carried Item
  with_waiting c items = record { command = c.command; room = c.room; waiting = items }

  -- one more item, behind the others
  abbrev pub then : List Item → Item → List Item
  then items item = items ++ item ∷ []

  -- the item overtakes the first, which waits last
  abbrev pub overtaking : Item → List Item → List Item
  overtaking item [] = item ∷ []
  overtaking item (x ∷ xs) = then (then xs item) x

  -- what waits after an accepted send
  abbrev pub after_send : Command → Item → List Item → List Item
  after_send Carry item waiting = then waiting item
  after_send Lose item waiting = waiting
  after_send Double item waiting = then (then waiting item) item
  after_send Reorder item waiting = overtaking item waiting
  after_send Close item waiting = waiting

  -- what the channel's send does
  abbrev pub HallSends : Carried Item → Item → Result (Unit {0}) Full → Carried Item → Type 0
  HallSends before item (Ok _) after =
      (0 < free_in before) × (after ≡ with_waiting before (after_send before.command item before.waiting))
  HallSends before item (Err fault) after =
      (free_in before ≡ 0) × (fault.layer ≡ hall_layer) × (after ≡ before)

  -- nothing waits
  pub record Nothing (before after : List Item) : Type 0 where
    pub none : before ≡ []
    pub same : after ≡ before

  -- what a receive gives of what waited, and what waits after it
  abbrev pub Gives : Command → List Item → Option Item → List Item → Type 0
  -- the first
  Gives Carry before (Some item) after = before ≡ item ∷ after
  Gives Carry before None after = Nothing before after
  -- nothing, and the first is lost
  Gives Lose before (Some item) after = ⊥
  Gives Lose before None after = after ≡ drop 1 before
  -- the first, which waits once more, behind the others
  Gives Double before (Some item) after = (before ≡ item ∷ drop 1 before) × (after ≡ then (drop 1 before) item)
  Gives Double before None after = Nothing before after
  -- the second, and the first goes behind the others
  Gives Reorder before (Some item) after = turned 1 before ≡ item ∷ after
  Gives Reorder before None after = Nothing before after
  -- nothing, and all wait still
  Gives Close before (Some item) after = ⊥
  Gives Close before None after = after ≡ before

  -- what the channel's receive does
  pub record HallReceives (before : Carried Item) (r : Option Item) (after : Carried Item) : Type 0 where
    pub gives : Gives before.command before.waiting r after.waiting
    pub same : after ≡ with_waiting before after.waiting
