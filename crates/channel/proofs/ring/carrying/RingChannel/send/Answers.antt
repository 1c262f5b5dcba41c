use Rattle.std.proofs.Common.{◌+◌, ◌<◌, [], ◌∷◌, ◌++◌, length, set, Ok, sym, refl, ap, ◌∙◌, inl, inr, arith, length-set, drop-set-lt, rules}
use Rattle.channel.specs.Places.{most_places, places, queue}
use Rattle.channel.specs.Ring.{Puts, contents}
use Rattle.channel.proofs.Queue.{End, laid, queue_put}
use Rattle.channel.proofs.RingLaws.{send_law}
use Rattle.channel.proofs.ring.carrying.RingChannel.send.Goals as goal
use Rattle.channel.proofs.ring.carrying.RingChannel.send.Goals.{then-end-places, else-end-places}

pub offset_bounds-self-place : goal.offset_bounds-self-place
offset_bounds-self-place g c =
    let low : c.start-start.result < places c.args.self.now.memory.now = c.start-start.ensures.within (omega (arith, c.len-count.ensures.fits)) in
    let inside : c.if-end-places.place < length c.args.self.now.memory.now =
    elim c.if-end-places.branch [
      | then-end-places w ↦ omega (arith, w.place-is)
      | else-end-places w ↦ omega (arith, w.place-is, c.len-count.ensures.fits)
    ] in
    search rules

pub returns : goal.returns
returns g c =
    let held = contents c.args.self.now in
    let memory = held.memory in
    let item = c.args.item in
    let start = c.start-start.result in
    let count = c.len-count.result in
    let place = c.if-end-places.place in
    let written = set memory place item in
    let free : count < places memory = omega (arith, c.len-count.ensures.fits) in
    let low-start : start < places memory = c.start-start.ensures.within (omega arith) in
    let end : End memory start count place =
    elim c.if-end-places.branch [
      | then-end-places w ↦ inl (omega arith, w.place-is)
      | else-end-places w ↦ inr (omega arith, omega (arith, w.place-is))
    ] in
    let low : place < most_places = omega arith in
    let put : Puts held item (laid written start (count + 1)) =
    record {
      room = omega (arith, c.len-count.ensures.count);
      last =
          queue_put memory start count place item low-start free end
          ∙ ap (λ xs. xs ++ item ∷ []) (ap (λ n. queue memory start n) c.len-count.ensures.count ∙ sym c.start-start.ensures.here);
      kept = record { long = length-set memory place item; rest = drop-set-lt most_places memory place item low };
    } in
    record { law = send_law held item (Ok tt) (laid written start (count + 1)) put; rule = (put, refl) }
