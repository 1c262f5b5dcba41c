use Rattle.std.proofs.Common.{length, sym, ap, subst, arith, length-append}
use Rattle.frame.proofs.Fronts.{split_of}
use Rattle.frame.proofs.walk.cut.Goals as goal
use Rattle.json_text.specs.Grammar.{Value}

pub returns : goal.returns
returns c = record {
  through = λ tree behind b.
      let parts = c.split_value.ensures.parts b.value behind (split_of b) in (subst (Value tree) (sym parts.0) b.is, parts.1);
  bound = omega (arith, length-append c.split_value.result.0.now c.split_value.result.1.now, ap length c.split_value.ensures.whole);
}
