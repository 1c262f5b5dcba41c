use Rattle.std.proofs.Common.{sym, ap, ◌∙◌, subst, arith}
use Rattle.frame.proofs.Fronts.{front_in}
use Rattle.frame.specs.Walks.{Begins}
use Rattle.frame.proofs.Fours.{ahead_of, none_left}
use Rattle.frame.proofs.Fours.{not_four, size, size_of}
use Rattle.frame.proofs.array.four_values.Goals as goal
use Rattle.json_text.specs.Grammar.Elems.{elem}
use Rattle.json_text.specs.Grammar.Json.{jarray}

pub returns-in_err-first_element : goal.returns-in_err-first_element
returns-in_err-first_element c = λ tree at. rw c.from_residual.ensures (λ p q r s is. c.in_err-first_element.ensures tree at p _ is)

pub returns-in_err-a : goal.returns-in_err-a
returns-in_err-a c = λ tree at.
    let vals = c.in_ok-first_element.ensures tree at in
    let a = c.next_element-a.ensures vals.values vals.end vals.ahead in
    let end = none_left a.others vals.end _ a.more c.in_err-a.was in
    rw c.from_residual-in_err-a.ensures (not_four tree (λ four. omega (arith, four, ap size_of vals.is, ap size a.is, ap size end)))

pub returns-in_err-b : goal.returns-in_err-b
returns-in_err-b c = λ tree at.
    let vals = c.in_ok-first_element.ensures tree at in
    let a = c.next_element-a.ensures vals.values vals.end vals.ahead in
    let b = c.next_element-b.ensures a.others vals.end (ahead_of a.others vals.end _ _ a.more c.in_ok-a.was) in
    let end = none_left b.others vals.end _ b.more c.in_err-b.was in
    rw c.from_residual-in_err-b.ensures (not_four tree (λ four. omega (arith, four, ap size_of vals.is, ap size a.is, ap size b.is, ap size end)))

pub returns-in_err-c : goal.returns-in_err-c
returns-in_err-c c = λ tree at.
    let vals = c.in_ok-first_element.ensures tree at in
    let a = c.next_element-a.ensures vals.values vals.end vals.ahead in
    let b = c.next_element-b.ensures a.others vals.end (ahead_of a.others vals.end _ _ a.more c.in_ok-a.was) in
    let d = c.next_element-c.ensures b.others vals.end (ahead_of b.others vals.end _ _ b.more c.in_ok-b.was) in
    let end = none_left d.others vals.end _ d.more c.in_err-c.was in
    rw c.from_residual-in_err-c.ensures (not_four tree (λ four. omega (arith, four, ap size_of vals.is, ap size a.is, ap size b.is, ap size d.is, ap size end)))

pub returns : goal.returns
returns c = λ tree at.
    let vals = c.in_ok-first_element.ensures tree at in
    let a = c.next_element-a.ensures vals.values vals.end vals.ahead in
    let b = c.next_element-b.ensures a.others vals.end (ahead_of a.others vals.end _ _ a.more c.in_ok-a.was) in
    let d = c.next_element-c.ensures b.others vals.end (ahead_of b.others vals.end _ _ b.more c.in_ok-b.was) in
    let ahead = ahead_of d.others vals.end _ _ d.more c.in_ok-c.was in
    let e = front_in d.others ahead.bytes vals.end _ ahead.whole ahead.is in
    record {
      a = a.tree;
      b = b.tree;
      c = d.tree;
      d = e.tree;
      others = e.others;
      is = vals.is ∙ ap jarray (a.is ∙ ap (elem a.tree) (b.is ∙ ap (elem b.tree) (d.is ∙ ap (elem d.tree) e.is)));
      first_is = a.value_is;
      second_is = b.value_is;
      third_is = d.value_is;
      behind = e.behind;
      end = vals.end;
      fourth_is = subst (λ l. Begins e.tree l e.behind) (sym c.skip_white-fourth.ensures) e.value;
      more = e.more;
    }
