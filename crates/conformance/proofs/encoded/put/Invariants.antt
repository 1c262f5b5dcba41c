use Rattle.std.proofs.Common.{◌≡◌, ◌++◌, replicate, vec_items}
use Rattle.conformance.proofs.encoded.put.Given as goal

abbrev pub invariant-loop : goal.invariant-loop
invariant-loop l = vec_items l.text ≡ vec_items l.initial.text ++ replicate l.counter l.piece.byte
