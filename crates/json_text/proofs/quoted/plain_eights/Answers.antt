use Rattle.json_text.proofs.Plains.{more_gone}
use Rattle.json_text.proofs.quoted.plain_eights.Goals as goal
use Rattle.std.proofs.lemmas.List.{take_rest}

pub loop-left-preserved : goal.loop-left-preserved
loop-left-preserved c = more_gone c.args.s.now c.loop-left.left.now _ 8 c.loop-left.invariant c.loop-left-test.ensures.0 c.loop-left-test.ensures.1 (take_rest c.loop-left.left.now 8)
