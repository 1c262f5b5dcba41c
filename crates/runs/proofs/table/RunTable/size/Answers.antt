use Rattle.std.proofs.Common.{sym, subst, arith}
use Rattle.runs.proofs.Tables.{all_total, in_order, more_total, rise, some_run}
use Rattle.runs.specs.Stretches.{Counts}
use Rattle.runs.proofs.table.RunTable.size.Goals as goal

pub size-numbers-requires : goal.size-numbers-requires
size-numbers-requires c = in_order _ (rise c.args.self.now _ c.as_slice-run-items.ensures) _ some_run c.loop-run-test.true

pub loop-run-preserved : goal.loop-run-preserved
loop-run-preserved c = record {
  counted = omega (arith, more_total _ (rise c.args.self.now _ c.as_slice-run-items.ensures) _ some_run c.loop-run-test.true);
  bound = omega arith;
}

pub returns : goal.returns
returns c =
    subst (λ l. Counts l c.loop-run.numbers) c.as_slice-run-items.ensures
    (subst (Counts c.as_slice-run-items.result.now) (sym c.loop-run.invariant.counted) (all_total _ (rise c.args.self.now _ c.as_slice-run-items.ensures) _ c.loop-run-test.false))
