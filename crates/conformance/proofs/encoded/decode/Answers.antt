use Rattle.std.proofs.Common.{sym, subst}
use Rattle.conformance.proofs.Pieces.{SoFar, done, none_left, one_more, some_left, stuck}
use Rattle.conformance.proofs.encoded.decode.Goals as goal
use Rattle.std.proofs.lemmas.List.{take_rest}

pub returns-in_default : goal.returns-in_default
returns-in_default c =
    let rest = c.loop-rest.rest.now in
    stuck _ _ rest (some_left rest c.loop-rest-test.ensures) c.in_default.ensures.pieces c.loop-rest.invariant

pub loop-rest-preserved : goal.loop-rest-preserved
loop-rest-preserved c =
    let rest = c.loop-rest.rest.now in
    let p = c.in-Some.piece in
    subst (SoFar _ _) (sym (take_rest rest p.width))
    (one_more _ _ rest _ p (some_left rest c.loop-rest-test.ensures) c.in-Some.ensures.pieces c.in_ok-put.ensures c.loop-rest.invariant)

pub returns : goal.returns
returns c =
    let rest = c.loop-rest.rest.now in
    done _ _ rest (none_left rest c.loop-rest-test.ensures) c.loop-rest.invariant
