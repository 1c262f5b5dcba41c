use Rattle.std.proofs.Common.{rules}
use Rattle.decimal.proofs.Widths.{written_none, written_more}
use Rattle.decimal.proofs.write_fixed.Goals as goal

pub loop-i-init : goal.loop-i-init
loop-i-init c = written_none c.args.out.now c.args.number

pub loop-i-preserved : goal.loop-i-preserved
loop-i-preserved c = search (rules, written_more c.loop-i.out c.loop-i.i c.args.number c.loop-i.rest)
