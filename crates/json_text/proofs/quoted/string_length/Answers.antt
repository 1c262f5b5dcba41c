use Rattle.std.proofs.Common.{arith, length-drop}
use Rattle.json_text.proofs.Plains.{plain_front}
use Rattle.json_text.proofs.quoted.string_length.Goals as goal
use Rattle.std.proofs.lemmas.List.{take_rest}

pub loop-left-init : goal.loop-left-init
loop-left-init c =
    let s = c.args.s.now in
    let n = c.plain_length.result in
    let told = c.plain_length.ensures in
    rw (take_rest s n) (omega (arith, plain_front s n told.bound told.plain, length-drop n s), omega (arith, length-drop n s))
