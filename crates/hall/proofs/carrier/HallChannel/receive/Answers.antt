use Rattle.std.proofs.Common.{length, Some, ap, arith}
use Rattle.hall.specs.Hall.{HallReceives, carried}
use Rattle.hall.proofs.HallLaws.{doubled, receive_law, reordered, waiting_fits}
use Rattle.hall.proofs.carrier.HallChannel.receive.Goals as goal

pub put-requires : goal.put-requires
put-requires g c =
    omega (arith, waiting_fits c.args.self.now, ap length c.in_ok-first-in-Double.ensures.gives, ap (λ s. s.room) c.take-in-Double.ensures.same)

pub put-requires-in-Reorder : goal.put-requires-in-Reorder
put-requires-in-Reorder g c =
    omega (arith, waiting_fits c.args.self.now, ap length c.in_ok-first-in-Reorder.ensures.gives, ap (λ s. s.room) c.take-in-Reorder.ensures.same)

pub returns-in_ok-first-in-Double : goal.returns-in_ok-first-in-Double
returns-in_ok-first-in-Double g c =
    let before = carried c.args.self.now in
    let after = carried c.put.new.self in
    let first = c.in_ok-first-in-Double.first in
    let rule : HallReceives before (Some first) after =
    doubled before (carried c.take-in-Double.new.self) after first
    c.in_ok-first-in-Double.ensures.gives c.take-in-Double.ensures.same c.put.ensures c.in-Double.is in
    record { law = receive_law before (Some first) after rule; rule = rule }

pub returns-in_ok-first-in-Reorder : goal.returns-in_ok-first-in-Reorder
returns-in_ok-first-in-Reorder g c =
    let before = carried c.args.self.now in
    let after = carried c.take-in-Reorder-2.new.self in
    let r = c.take-in-Reorder-2.result in
    let rule : HallReceives before r after =
    reordered before (carried c.take-in-Reorder.new.self) (carried c.put-in-Reorder.new.self) after c.in_ok-first-in-Reorder.first r
    c.in_ok-first-in-Reorder.ensures.gives c.take-in-Reorder.ensures.same c.put-in-Reorder.ensures
    c.take-in-Reorder-2.ensures.gives c.take-in-Reorder-2.ensures.same c.in-Reorder.is in
    record { law = receive_law before r after rule; rule = rule }
