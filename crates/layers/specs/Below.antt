-- The channel that a layer stands on, known by its promises alone. Assumes nothing.
use Rattle.std.specs.Prelude.{◌≡◌, ℕ, List, [], ◌∷◌, Ok, Option, Result}
use Rattle.channel.specs.Laws.{Receives, Sends}
use Rattle.channel.specs.declared.channel.Channel.{Ghosts as Promises}
use Rattle.channel.specs.declared.faults.Full.{Full}

module _ {C Item : Type 0} (channel : Promises C Item) where
  -- a send below: the law of every channel, and the rule of this kind of channel
  pub record Sent (b : C) (item : Item) (r : Result (Unit {0}) Full) (b' : C) : Type 0 where
    pub law : Sends (channel.meaning b) item r (channel.meaning b')
    pub rule : channel.sends b item r b'

  -- a receive below, likewise
  pub record Got (b : C) (r : Option Item) (b' : C) : Type 0 where
    pub law : Receives (channel.meaning b) r (channel.meaning b')
    pub rule : channel.receives b r b'

  -- below took the items one by one in this order, and no other call was made
  abbrev pub Took : C → List Item → C → Type 0
  Took b [] b'' = b'' ≡ b
  Took b (item ∷ items) b'' = (b' : C) × Sent b item (Ok tt) b' × Took b' items b''

  abbrev pub free_of : C → ℕ
  free_of b = (channel.meaning b).free

  abbrev pub waiting_in : C → List Item
  waiting_in b = (channel.meaning b).waiting

  -- the layer that would refuse below
  abbrev pub refuser_of : C → ℕ
  refuser_of b = (channel.meaning b).refuser
