use Rattle.std.proofs.Common.{length, sym, ap, ◌∙◌, subst, arith, length-append}
use Rattle.frame.specs.Walks.{Begins}
use Rattle.frame.proofs.Fronts.{front}
use Rattle.frame.proofs.Fronts.{skip_short}
use Rattle.frame.proofs.walk.take_name.Goals as goal
use Rattle.json_text.specs.Parts.{skip}

pub returns : goal.returns
returns c =
    let s = c.args.s.now in
    let name = c.split_value.result in
    record {
      taken = λ ms end ahead.
          let f = front ms ahead.bytes end s ahead.whole ahead.is in
          let first = c.split_value.ensures.text f.called f.colon (c.skip_white.ensures ∙ f.name_front) f.chars in
          let past = c.past.ensures.found f.after_colon (ap skip first.1 ∙ f.colon_front) in
          record {
            called = f.called;
            tree = f.tree;
            others = f.others;
            is = f.is;
            name_is = first.0;
            behind = f.behind;
            value = subst (λ l. Begins f.tree l f.behind) (sym (c.skip_white-2.ensures ∙ ap skip past)) f.value;
            more = f.more;
          };
      bound =
          omega (arith, length-append name.0.now name.1.now, ap length c.split_value.ensures.whole, ap length c.skip_white.ensures, skip_short s, c.past.ensures.bound, ap length c.skip_white-2.ensures, skip_short c.past.result.now);
    }
