use Rattle.std.proofs.Common.{arith, rules, below_more}
use Rattle.decimal.proofs.Values.{capped_more}
use Rattle.decimal.proofs.capped_value.Goals as goal

pub loop-byte-preserved : goal.loop-byte-preserved
loop-byte-preserved c = (
  omega arith,
  below_more _ _ c.loop-byte.invariant.1 (search rules),
  search (rules, capped_more c.args.digits.now c.loop-byte.byte-index c.loop-byte.number),
)
