use Rattle.std.proofs.Common.{◌<◌, length, ap, ◌∙◌, arith}
use Rattle.layers.proofs.Chains.{took_next}
use Rattle.layers.proofs.spool.Spool.pass_down.Goals as goal

pub loop-passed-preserved : goal.loop-passed-preserved
loop-passed-preserved g c =
    let spool = c.args.self.now in
    let loop = c.loop-passed in
    let low : loop.passed < length spool.held.items = omega (arith, c.loop-passed-test.true, c.len-count.ensures.value) in
    let took = took_next g.C.Channel spool.held.items loop.passed _ spool.below loop.self.below c.send.new.self c.send.result c.as_slice.result.now
    (c.as_slice.ensures.value ∙ ap (λ h. h.items) loop.invariant.1) low loop.invariant.0 c.send.ensures.law c.send.ensures.rule c.unwrap.ensures in
    (took, loop.invariant.1, omega arith)
