use Rattle.std.proofs.Common.{◌<◌, ◌^◌, suc, sym, ap, arith, length, pow-suc}
use Rattle.std.proofs.lemmas.Fmt.{decimal_digit, length-decimal-le}
use Rattle.decimal.proofs.Plain.{length_least}
use Rattle.decimal.proofs.plain_width.Goals as goal

pub returns-in-Some : goal.returns-in-Some
returns-in-Some c =
    let n = c.args.number in
    let k = c.in-Some.log in
    let below : n < 10 ^ suc k = omega (arith, pow-suc 10 k, c.in-Some.ensures.next_power_gt) in
    omega (arith, length_least k n c.in-Some.ensures.power_le (omega arith), length-decimal-le (suc k) n (omega arith) below (omega arith))

pub returns-in-None : goal.returns-in-None
returns-in-None c = sym (ap length (decimal_digit c.args.number (omega (arith, c.in-None.ensures.none))))
