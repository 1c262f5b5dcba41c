use Rattle.std.proofs.Common.{arith, false-eqb}
use Rattle.decimal.proofs.Widths.{text_cases}
use Rattle.decimal.proofs.fixed_value.Goals as goal

pub returns : goal.returns
returns c =
    text_cases c.args.digits.now c.capped_value.result (omega (arith, false-eqb _ 0 c.if-is_empty.ensures))
    (omega arith) c.capped_value.ensures
