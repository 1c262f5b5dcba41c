use Rattle.std.proofs.Common.{arith}
use Rattle.channel.proofs.Queue.{length_queue}
use Rattle.channel.proofs.ring.Ring.len.Goals as goal

pub returns : goal.returns
returns g c =
    let ring = c.args.self.now in
    let waits = length_queue ring.memory.now ring.first ring.count in
    record { count = omega (arith, waits); fits = omega arith }
