use Rattle.std.proofs.Common.{drop, sym, refl, ap, ◌∙◌, inr, arith}
use Rattle.json_text.specs.Machine.{accepts}
use Rattle.json_text.specs.Verdict.{state_of}
use Rattle.json_text.proofs.Unique.{one_tree}
use Rattle.json_text.proofs.Verdicts.{all_read, is_json, not_json, reached_on, reached_step, shallow_scanner, stopped_at}
use Rattle.json_text.proofs.judge.check.Goals as goal
use Rattle.std.proofs.lemmas.List.{take_rest}
use Rattle.std.proofs.lemmas.Result.{err_from_is_err_and}

pub returns-in_err-step : goal.returns-in_err-step
returns-in_err-step c =
    let p = err_from_is_err_and c.from_residual.result c.from_residual.ensures.1 in
    record { judged = rw (p.1, p.2) (stopped_at c.args.text.now c.loop-left.left.now _ (state_of c.loop-left.scanner) c.loop-left.invariant (omega arith) c.in_err-step.ensures); one_tree = one_tree c.args.text.now }

pub loop-left-preserved : goal.loop-left-preserved
loop-left-preserved c =
    let text = c.args.text.now in
    let left = c.loop-left.left.now in
    let stepped = state_of c.step.new.self in
    let here = reached_step text left (state_of c.loop-left.scanner) stepped c.loop-left.invariant (omega arith) c.in_ok-step.ensures (shallow_scanner c.step.new.self) in
    rw (take_rest left 1) (rw (take_rest (drop 1 left) c.pass_plain.result)
    (reached_on text (drop 1 left) stepped (state_of c.pass_plain.new.self) c.pass_plain.result (drop c.pass_plain.result (drop 1 left)) here (rw (take_rest left 1) at c.pass_plain.ensures.passed) (rw (take_rest left 1) at c.pass_plain.ensures.bound) refl))

pub returns-then-is_complete : goal.returns-then-is_complete
returns-then-is_complete c =
    let text = c.args.text.now in
    let all = all_read text c.loop-left.left.now (state_of c.loop-left.scanner) c.loop-left.invariant (omega arith) in
    record { judged = (is_json text (ap accepts all.0 ∙ sym c.if-is_complete.ensures), all.1); one_tree = one_tree text }

pub returns-else-is_complete : goal.returns-else-is_complete
returns-else-is_complete c =
    let text = c.args.text.now in
    let all = all_read text c.loop-left.left.now (state_of c.loop-left.scanner) c.loop-left.invariant (omega arith) in
    record { judged = inr (refl, not_json text (ap accepts all.0 ∙ sym c.if-is_complete.ensures), all.1); one_tree = one_tree text }
