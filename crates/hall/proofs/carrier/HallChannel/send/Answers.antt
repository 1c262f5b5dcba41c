use Rattle.std.proofs.Common.{◌<◌, Ok, arith}
use Rattle.hall.specs.Hall.{HallSends, carried, free_in}
use Rattle.hall.proofs.HallLaws.{send_law}
use Rattle.hall.proofs.carrier.HallChannel.send.Goals as goal

pub returns : goal.returns
returns g c =
    let before = carried c.args.self.now in
    let after = carried c.carry.new.self in
    let was_open : 0 < free_in before = omega arith in
    let rule : HallSends before c.args.item (Ok tt) after = (was_open, c.carry.ensures) in
    record { law = send_law before c.args.item (Ok tt) after rule; rule = rule }
