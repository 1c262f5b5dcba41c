use Rattle.std.proofs.Common.{◌<◌, Some, sym, refl, ap, ◌∙◌, inl, inr, arith}
use Rattle.channel.specs.Places.{places, queue}
use Rattle.channel.specs.Ring.{Takes, contents}
use Rattle.channel.proofs.Queue.{Next, laid, queue_take}
use Rattle.channel.proofs.RingLaws.{receive_law}
use Rattle.channel.proofs.ring.carrying.RingChannel.receive.Goals as goal
use Rattle.channel.proofs.ring.carrying.RingChannel.receive.Goals.{then-next-places, else-next-places}

pub returns : goal.returns
returns g c =
    let ring = c.args.self.now in
    let memory = ring.memory.now in
    let start = c.start-start.result in
    let count = c.len-count.result in
    let next = c.if-next-places.self in
    let low : start < places memory = c.start-start.ensures.within (omega arith) in
    let onward : Next memory start next =
    elim c.if-next-places.branch [
      | then-next-places w ↦ inl (omega (arith, c.places.ensures), w.self-is)
      | else-next-places w ↦ inr (omega (arith, c.places.ensures), w.self-is)
    ] in
    let taken : Takes (contents ring) _ (laid memory next _) =
    record {
      first =
          c.start-start.ensures.here
          ∙ ap (λ n. queue memory start n) (sym c.len-count.ensures.count)
          ∙ queue_take memory start count next c.index-self-start.result low (omega arith) c.len-count.ensures.fits onward;
      same_memory = refl;
    } in
    record { law = receive_law _ (Some _) _ taken; rule = (taken, refl) }
