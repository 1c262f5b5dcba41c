use Rattle.std.proofs.Common.{◌+◌, ◌-◌, ◌++◌, take, drop, sym, ap, ◌∙◌, append-nil, arith}
use Rattle.channel.specs.Places.{places, queue}
use Rattle.channel.proofs.Queue.{queue_ahead, queue_round}
use Rattle.channel.proofs.ring.Ring.waiting.Goals as goal

pub returns-then-end-places : goal.returns-then-end-places
returns-then-end-places g c =
    let memory = c.args.self.now.memory.now in
    let start = c.start-start.result in
    let count = c.len.result in
    append-nil (take (start + count - start) (drop start memory))
    ∙ ap (λ n. take n (drop start memory)) {x = start + count - start} {y = count} (omega arith)
    ∙ queue_ahead memory start count (omega arith)
    ∙ ap (λ n. queue memory start n) c.len.ensures.count
    ∙ sym c.start-start.ensures.here

pub returns-else-end-places : goal.returns-else-end-places
returns-else-end-places g c =
    let memory = c.args.self.now.memory.now in
    let start = c.start-start.result in
    let count = c.len.result in
    ap (λ n. take (n - start) (drop start memory) ++ take (start + count - n - 0) memory) c.places-places.ensures
    ∙ ap (λ n. take (places memory - start) (drop start memory) ++ take n memory) {x = start + count - places memory - 0} {y = start + count - places memory} (omega arith)
    ∙ queue_round memory start count c.start-start.ensures.low c.len.ensures.fits (omega arith)
    ∙ ap (λ n. queue memory start n) c.len.ensures.count
    ∙ sym c.start-start.ensures.here
