use Rattle.std.proofs.Common.{◌<◌, length, ap, arith, rules}
use Rattle.split.proofs.FirstPiece.{pieces_first}
use Rattle.split.proofs.pieces.PiecesIterator.next.Goals as goal

pub returns-clause-steps : goal.returns-clause-steps
returns-clause-steps c =
    let some : 0 < length c.args.self.now.rest.now = search rules in
    rw (c.cut.ensures.front, c.cut.ensures.back) (pieces_first c.args.self.now.separator c.args.self.now.rest.now some)

pub returns-clause-goes : goal.returns-clause-goes
returns-clause-goes c =
    let fewer = ap length (returns-clause-steps c) in
    record { on = λ _. (tt, search rules, omega (arith, fewer)); keeps = tt; rests = λ _. tt }
