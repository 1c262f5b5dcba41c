use Rattle.std.proofs.Common.{sym, subst}
use Rattle.frame.proofs.Fronts.{front_in, more_in, split_of}
use Rattle.frame.proofs.elements.next_element.Goals as goal
use Rattle.json_text.specs.Grammar.{Value}
use Rattle.json_text.specs.Parts.{Split}

pub returns : goal.returns
returns c = λ es end ahead.
    let f = front_in es ahead.bytes end c.args.s.now ahead.whole ahead.is in
    let split = subst (λ l. Split l f.value.value f.behind) (sym c.skip_white.ensures) (split_of f.value) in
    let cut = c.split_value.ensures.parts f.value.value f.behind split in
    record {
      tree = f.tree;
      others = f.others;
      is = f.is;
      value_is = subst (Value f.tree) (sym cut.0) f.value.is;
      more = more_in f.others c.split_value.result.1.now f.behind end c.after-rest.result cut.1 c.after-rest.ensures.found f.more;
    }
