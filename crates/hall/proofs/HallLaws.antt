-- The hall's channel keeps the laws of every channel under each command. Assumes nothing.
use Rattle.std.proofs.Common.{◌≡◌, ℕ, ◌+◌, ◌-◌, ◌<◌, ◌≤◌, ◌⊎◌, List, [], ◌∷◌, length, drop, IfSome, Some, None, Ok, Err, Option, Result, sym, refl, ap, ◌∙◌, subst, inl, inr, ⊎_elim, arith, length-drop}
use Rattle.channel.specs.Laws.{Receives, Sends}
use Rattle.channel.specs.Members.{In}
use Rattle.channel.specs.Places.{turned}
use Rattle.channel.specs.declared.faults.Full.{Full}
use Rattle.channel.proofs.Queue.{length_queue}
use Rattle.channel.proofs.Members.{in_drop, in_push}
use Rattle.hall.specs.Hall.{Carried, Gives, HallReceives, HallSends, after_send, carried, free_in, free_under, hall_meaning, overtaking, then, with_waiting}
use Rattle.hall.specs.declared.carrier.Hall.{Hall}
use Rattle.hall.specs.declared.command.Command.{Command}
use Rattle.hall.specs.declared.command.Command.TheVariants.{Carry, Lose, Double, Reorder, Close}
use Rattle.std.proofs.lemmas.List.{length_push}

-- two places less below cost at most one of the free count
free_falls : (command : Command) (n m : ℕ) → n ≤ m + 2 → free_under command n ≤ free_under command m + 1
free_falls Carry n m h = omega arith
free_falls Lose n m h = omega arith
free_falls Double n m h = omega arith
free_falls Reorder n m h = omega arith
free_falls Close n m h = omega arith

-- no place less costs nothing
free_stays : (command : Command) (n m : ℕ) → n ≤ m → free_under command n ≤ free_under command m
free_stays Carry n m h = omega arith
free_stays Lose n m h = omega arith
free_stays Double n m h = omega arith
free_stays Reorder n m h = omega arith
free_stays Close n m h = omega arith

-- a free count above 0 means two places
pub free_two : (command : Command) (n : ℕ) → 0 < free_under command n → 2 ≤ n
free_two Carry n h = omega arith
free_two Lose n h = omega arith
free_two Double n h = omega arith
free_two Reorder n h = omega arith
free_two Close n h = omega arith

module _ {Item : Type 0} where
  length_overtaking : (item : Item) (waiting : List Item) → length (overtaking item waiting) ≡ length waiting + 1
  length_overtaking item [] = refl
  length_overtaking item (x ∷ xs) = omega (arith, length_push (then xs item) x, length_push xs item)

  -- a send takes at most two places
  after_long : (command : Command) (item : Item) (waiting : List Item) → length (after_send command item waiting) ≤ length waiting + 2
  after_long Carry item waiting = omega (arith, length_push waiting item)
  after_long Lose item waiting = omega arith
  after_long Double item waiting = omega (arith, length_push waiting item, length_push (then waiting item) item)
  after_long Reorder item waiting = omega (arith, length_overtaking item waiting)
  after_long Close item waiting = omega arith

  in_overtaking : (item : Item) (waiting : List Item) (x : Item) → In x (overtaking item waiting) → In x waiting ⊎ (x ≡ item)
  in_overtaking item [] x h = in_push [] item x h
  in_overtaking item (y ∷ ys) x h =
      ⊎_elim
      (λ k. ⊎_elim (λ m. inl (inr m)) (λ e. inr e) (in_push ys item x k))
      (λ e. inl (inl e))
      (in_push (then ys item) y x h)

  -- a send brings in nothing but the item
  after_in : (command : Command) (item : Item) (waiting : List Item) (x : Item) → In x (after_send command item waiting) → In x waiting ⊎ (x ≡ item)
  after_in Carry item waiting x h = in_push waiting item x h
  after_in Lose item waiting x h = inl h
  after_in Double item waiting x h = ⊎_elim (in_push waiting item x) (λ e. inr e) (in_push (then waiting item) item x h)
  after_in Reorder item waiting x h = in_overtaking item waiting x h
  after_in Close item waiting x h = inl h

  pub send_law : (before : Carried Item) (item : Item) (r : Result (Unit {0}) Full) (after : Carried Item)
      → HallSends before item r after → Sends (hall_meaning before) item r (hall_meaning after)
  send_law before item (Ok u) after h =
      let waits = ap (λ c. c.waiting) h.1 in
      record {
        was_open = h.0;
        waits = λ x m. after_in before.command item before.waiting x (subst (In x) waits m);
        falls = subst (λ c. free_in before ≤ free_in c + 1) (sym h.1)
            (free_falls before.command (before.room - length before.waiting) (before.room - length (after_send before.command item before.waiting))
            (omega (arith, after_long before.command item before.waiting)));
      }
  send_law before item (Err fault) after h =
      record {
        closed = h.0;
        by = h.1;
        same_waiting = ap (λ c. c.waiting) h.2;
        same_free = ap free_in h.2;
      }

  -- an item of the turned list is one of the list
  in_turned : (xs : List Item) (x : Item) → In x (turned 1 xs) → In x xs
  in_turned [] x h = absurd h
  in_turned (y ∷ ys) x h = ⊎_elim (λ m. inr m) (λ e. inl e) (in_push ys y x h)

  length_turned : (xs : List Item) → length (turned 1 xs) ≡ length xs
  length_turned [] = refl
  length_turned (y ∷ ys) = length_push ys y ∙ omega arith

  -- what is given waited before
  gives_in : (command : Command) (before : List Item) (r : Option Item) (after : List Item) → Gives command before r after → IfSome r (λ x. In x before)
  gives_in Carry before (Some item) after h = subst (In item) (sym h) (inl refl)
  gives_in Carry before None after h = tt
  gives_in Lose before (Some item) after h = absurd h
  gives_in Lose before None after h = tt
  gives_in Double before (Some item) after h = subst (In item) (sym h.0) (inl refl)
  gives_in Double before None after h = tt
  gives_in Reorder before (Some item) after h = in_turned before item (subst (In item) (sym h) (inl refl))
  gives_in Reorder before None after h = tt
  gives_in Close before (Some item) after h = absurd h
  gives_in Close before None after h = tt

  -- what waits after it waited before
  left_in : (command : Command) (before : List Item) (r : Option Item) (after : List Item) → Gives command before r after → (x : Item) → In x after → In x before
  left_in Carry before (Some item) after h x m = subst (In x) (sym h) (inr m)
  left_in Carry before None after h x m = subst (In x) h.same m
  left_in Lose before (Some item) after h x m = absurd h
  left_in Lose before None after h x m = in_drop 1 before x (subst (In x) h m)
  left_in Double before (Some item) after h x m =
      ⊎_elim (in_drop 1 before x) (λ e. subst (In x) (sym h.0) (inl e)) (in_push (drop 1 before) item x (subst (In x) h.1 m))
  left_in Double before None after h x m = subst (In x) h.same m
  left_in Reorder before (Some item) after h x m = in_turned before x (subst (In x) (sym h) (inr m))
  left_in Reorder before None after h x m = subst (In x) h.same m
  left_in Close before (Some item) after h x m = absurd h
  left_in Close before None after h x m = subst (In x) h m

  -- no more wait after it
  left_long : (command : Command) (before : List Item) (r : Option Item) (after : List Item) → Gives command before r after → length after ≤ length before
  left_long Carry before (Some item) after h = omega (arith, ap length h)
  left_long Carry before None after h = omega (arith, ap length h.same)
  left_long Lose before (Some item) after h = absurd h
  left_long Lose before None after h = omega (arith, ap length h, length-drop 1 before)
  left_long Double before (Some item) after h = omega (arith, ap length h.0, ap length h.1, length_push (drop 1 before) item)
  left_long Double before None after h = omega (arith, ap length h.same)
  left_long Reorder before (Some item) after h = omega (arith, ap length h, length_turned before)
  left_long Reorder before None after h = omega (arith, ap length h.same)
  left_long Close before (Some item) after h = absurd h
  left_long Close before None after h = omega (arith, ap length h)

  pub receive_law : (before : Carried Item) (r : Option Item) (after : Carried Item)
      → HallReceives before r after → Receives (hall_meaning before) r (hall_meaning after)
  receive_law before r after h =
      record {
        gives = gives_in before.command before.waiting r after.waiting h.gives;
        waits = left_in before.command before.waiting r after.waiting h.gives;
        free = subst (λ c. free_in before ≤ free_in c) (sym h.same)
            (free_stays before.command (before.room - length before.waiting) (before.room - length after.waiting)
            (omega (arith, left_long before.command before.waiting r after.waiting h.gives)));
      }

  -- no more wait than there are places for
  pub waiting_fits : (hall : Hall Item) → length (carried hall).waiting ≤ (carried hall).room
  waiting_fits hall = omega (arith, length_queue hall.ring.memory.now hall.ring.first hall.ring.count)

  -- the first was taken and put behind the others: a receive that doubles
  pub doubled : (before mid after : Carried Item) (first : Item) → before.waiting ≡ first ∷ mid.waiting
      → mid ≡ with_waiting before mid.waiting → after ≡ with_waiting mid (then mid.waiting first) → before.command ≡ Double
      → HallReceives before (Some first) after
  doubled before mid after first t m a e =
      let rest : mid.waiting ≡ drop 1 before.waiting = ap (λ xs. drop 1 xs) (sym t) in
      let waits : after.waiting ≡ then mid.waiting first = ap (λ c. c.waiting) a in
      record {
        gives = subst (λ k. Gives k before.waiting (Some first) after.waiting) (sym e)
            (t ∙ ap (λ xs. first ∷ xs) rest, waits ∙ ap (λ xs. then xs first) rest);
        same = a ∙ ap (λ c. with_waiting c (then mid.waiting first)) m ∙ ap (λ xs. with_waiting before xs) (sym waits);
      }

  -- the first was taken and put behind the others, and the next taken: a receive that reorders
  pub reordered : (before mid put after : Carried Item) (first : Item) (r : Option Item) → before.waiting ≡ first ∷ mid.waiting
      → mid ≡ with_waiting before mid.waiting → put ≡ with_waiting mid (then mid.waiting first)
      → Gives Carry put.waiting r after.waiting → after ≡ with_waiting put after.waiting → before.command ≡ Reorder
      → HallReceives before r after
  reordered before mid put after first r t m p g a e =
      let waits : put.waiting ≡ turned 1 before.waiting = ap (λ c. c.waiting) p ∙ sym (ap (λ xs. turned 1 xs) t) in
      record {
        gives = subst (λ k. Gives k before.waiting r after.waiting) (sym e) (next r waits g);
        same = a ∙ ap (λ c. with_waiting c after.waiting) p ∙ ap (λ c. with_waiting c after.waiting) m;
      }
    where
      next : (r : Option Item) → put.waiting ≡ turned 1 before.waiting → Gives Carry put.waiting r after.waiting → Gives Reorder before.waiting r after.waiting
      next (Some item) w h = sym w ∙ h
      next None w h = absurd (omega (arith, ap length (sym w ∙ h.none), length_turned before.waiting, ap length t))
