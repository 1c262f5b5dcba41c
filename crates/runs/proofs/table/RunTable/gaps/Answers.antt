use Rattle.std.proofs.Common.{◌≡◌, suc, ◌+◌, ◌-◌, [], ◌∷◌, ◌++◌, length, take, ap, ap₂, ◌∙◌, arith, length-append}
use Rattle.runs.proofs.Gaps.{gaps_from}
use Rattle.runs.proofs.Tables.{count_is, gaps_all, gaps_ascend, gaps_next, later_at, later_length, next_above, some_run}
use Rattle.runs.specs.Contents.{runs_in}
use Rattle.runs.proofs.table.RunTable.gaps.Goals as goal
use Rattle.runs.proofs.table.RunTable.gaps.Goals.{After-gap_to, else-first-gt0, then-first-gt0}

pub gap_to-requires : goal.gap_to-requires
gap_to-requires c =
    let there = later_at c.args.self.now _ c.as_slice.ensures c.loop-run.run-index some_run c.loop-run-test.true in
    let up = next_above (runs_in c.args.self.now) c.args.self.now.rising c.loop-run.run-index some_run (omega (arith, later_length c.args.self.now _ c.as_slice.ensures)) in
    omega (arith, up, ap (λ r. r.last) c.loop-run.invariant.last, ap (λ r. r.first) there)

-- the gap in front of the next run
next : (c : After-gap_to) → runs_in c.loop-run.gaps ++ c.gap_to.result ∷ [] ≡ gaps_from 0 (take (c.loop-run.run-index + 1 + 1) (runs_in c.args.self.now))
next c =
    let there = later_at c.args.self.now _ c.as_slice.ensures c.loop-run.run-index some_run c.loop-run-test.true in
    ap (λ r. runs_in c.loop-run.gaps ++ r ∷ []) (c.gap_to.ensures ∙ ap₂ (λ r q. record { first = suc r.last; last = q.first - 1 }) c.loop-run.invariant.last there)
    ∙ gaps_next (runs_in c.args.self.now) c.args.self.now.rising _ c.loop-run.run-index some_run (omega (arith, later_length c.args.self.now _ c.as_slice.ensures)) c.loop-run.invariant.found

pub push-requires-in-loop-run : goal.push-requires-in-loop-run
push-requires-in-loop-run c = record {
  room = omega (arith, later_length c.args.self.now _ c.as_slice.ensures, count_is c.args.self.now);
  rising = gaps_ascend (runs_in c.args.self.now) c.args.self.now.rising _ (c.loop-run.run-index + 1 + 1) (next c);
}

pub loop-run-preserved : goal.loop-run-preserved
loop-run-preserved c = record {
  found = c.push-in-loop-run.ensures ∙ next (goal.at.loop-run-preserved c).After-gap_to;
  last = later_at c.args.self.now c.as_slice.result.now c.as_slice.ensures c.loop-run.run-index some_run c.loop-run-test.true;
  few = omega (arith, ap length c.push-in-loop-run.ensures, length-append (runs_in c.loop-run.gaps) (c.gap_to.result ∷ []), count_is c.push-in-loop-run.new.self, count_is c.loop-run.gaps);
}

pub returns : goal.returns
returns c = gaps_all (runs_in c.args.self.now) c.args.self.now.rising _ (c.loop-run.run-index + 1) (omega (arith, later_length c.args.self.now _ c.as_slice.ensures)) c.loop-run.invariant.found
