use Rattle.conformance.proofs.Pieces.{third, third_wide}
use Rattle.conformance.proofs.encoded.first_piece.Goals as goal

pub returns : goal.returns
returns c =
    let w = c.args.written.now in
    record {
      pieces = third w _ c.in_default.ensures c.in_default-hexadecimal.ensures c.repeated.ensures;
      wide = third_wide w _ c.repeated.ensures;
    }
