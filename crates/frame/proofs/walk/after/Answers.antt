use Rattle.std.proofs.Common.{length, ap, arith, length-drop}
use Rattle.frame.proofs.Fronts.{skip_short}
use Rattle.frame.proofs.walk.after.Goals as goal
use Rattle.std.proofs.lemmas.List.{take_rest}

pub returns-in-len1-up-clause-shorter : goal.returns-in-len1-up-clause-shorter
returns-in-len1-up-clause-shorter c =
    let s = c.skip_white.result.now in
    omega (arith, ap length (take_rest s 1), length-drop 1 s, ap length c.skip_white.ensures, skip_short c.args.s.now)
