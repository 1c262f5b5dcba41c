-- A ring's own rules keep the laws of every channel. Assumes nothing.
use Rattle.std.proofs.Common.{◌≡◌, ◌+◌, length, Some, None, Ok, Err, Option, Result, sym, refl, ap, ◌∙◌, subst, inl, inr, arith}
use Rattle.std.proofs.lemmas.List.{length_push}
use Rattle.channel.specs.Laws.{Receives, Sends}
use Rattle.channel.specs.Members.{In}
use Rattle.channel.specs.Ring.{Contents, RingReceives, RingSends, ring_meaning}
use Rattle.channel.specs.declared.faults.Full.{Full}
use Rattle.channel.proofs.Members.{in_push}

module _ {Item : Type 0} where
  pub send_law : (before : Contents Item) (item : Item) (r : Result (Unit {0}) Full) (after : Contents Item)
      → RingSends before item r after → Sends (ring_meaning before) item r (ring_meaning after)
  send_law before item (Ok u) after h =
      let more : length after.waiting ≡ length before.waiting + 1 = ap length h.last ∙ length_push before.waiting item in
      record {
        was_open = omega (arith, h.room);
        waits = λ x k. in_push before.waiting item x (subst (In x) h.last k);
        falls = omega (arith, more, h.room, h.kept.long);
      }
  send_law before item (Err fault) after h =
      record {
        closed = omega (arith, h.full);
        by = h.by;
        same_waiting = ap (λ c. c.waiting) h.same;
        same_free = ap (λ c. (ring_meaning c).free) h.same;
      }

  pub receive_law : (before : Contents Item) (r : Option Item) (after : Contents Item)
      → RingReceives before r after → Receives (ring_meaning before) r (ring_meaning after)
  receive_law before (Some item) after h =
      record {
        gives = subst (In item) (sym h.first) (inl refl);
        waits = λ x k. subst (In x) (sym h.first) (inr k);
        free = omega (arith, ap length h.first, ap length h.same_memory);
      }
  receive_law before None after h =
      record {
        gives = tt;
        waits = λ x k. subst (λ c. In x c.waiting) h.same k;
        free = omega (arith, ap (λ c. (ring_meaning c).free) h.same);
      }
