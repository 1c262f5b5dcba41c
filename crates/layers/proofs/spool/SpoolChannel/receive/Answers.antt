use Rattle.std.proofs.Common.{refl}
use Rattle.layers.specs.Spool.{SpoolReceives, spooled}
use Rattle.layers.proofs.SpoolLaws.{laid, receive_law}
use Rattle.layers.proofs.spool.SpoolChannel.receive.Goals as goal

pub returns-clause-law : goal.returns-clause-law
returns-clause-law g c =
    let before = c.args.self.now in
    let passing = c.pass_down.new.self in
    let rule : SpoolReceives g.C.Channel (spooled before) c.receive.result (laid c.receive.new.self passing.held.items) =
    record {
      passing = spooled passing;
      passes = c.pass_down.ensures.passes;
      got = record { law = c.receive.ensures.law; rule = c.receive.ensures.rule };
      same = refl;
    } in
    receive_law g.C.Channel _ c.receive.result _ c.pass_down.ensures.fits rule
