use Rattle.std.proofs.Common.{arith}
use Rattle.channel.proofs.Queue.{queue_count}
use Rattle.channel.proofs.ring.Ring.start.Goals as goal

pub returns : goal.returns
returns g c =
    let ring = c.args.self.now in
    record { low = omega (arith, ring.begins); within = λ some. omega (arith, ring.begins); here = queue_count ring.memory.now ring.first ring.count }
