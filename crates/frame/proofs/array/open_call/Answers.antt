use Rattle.std.proofs.Common.{codes, sym, refl, ◌∙◌}
use Rattle.frame.proofs.Fours.{same_front}
use Rattle.frame.proofs.array.open_call.Goals as goal
use Rattle.json_text.specs.Grammar.Elems.{elem}
use Rattle.json_text.specs.Grammar.Json.{jarray}
use Rattle.std.proofs.lemmas.Bool.{true≢false}

pub returns-in_err-four : goal.returns-in_err-four
returns-in_err-four c = λ tree at. rw c.from_residual.ensures (λ id payload call. c.in_err-four.ensures tree at _ _ _ _ call.is)

pub returns-then-not-is_two : goal.returns-then-not-is_two
returns-then-not-is_two c = λ tree at id payload call.
    let f = c.in_ok-four.ensures tree at in
    let g = same_front tree _ _ _ _ _ _ _ _ _ f.is call.is in
    true≢false (sym ((c.if-not-is_two.ensures f.a f.first_is).1 g.0))

pub returns-then-not-is_string : goal.returns-then-not-is_string
returns-then-not-is_string c = λ tree at id payload call.
    let f = c.in_ok-four.ensures tree at in
    let g = same_front tree _ _ _ _ _ _ _ _ _ f.is call.is in
    true≢false (sym ((c.if-not-is_string.ensures f.c (codes "TransactionEvent") f.third_is refl).1 g.2))

pub returns-in_err-id : goal.returns-in_err-id
returns-in_err-id c = λ tree at.
    let f = c.in_ok-four.ensures tree at in
    rw c.from_residual-in_err-id.ensures (λ id payload call.
    let g = same_front tree _ _ _ _ _ _ _ _ _ f.is call.is in
    c.in_err-id.ensures f.b f.second_is id g.1)

pub returns : goal.returns
returns c = λ tree at.
    let f = c.in_ok-four.ensures tree at in
    let two = (c.if-not-is_two.ensures f.a f.first_is).0 refl in
    let action = (c.if-not-is_string.ensures f.c (codes "TransactionEvent") f.third_is refl).0 refl in
    let id = c.in_ok-id.ensures f.b f.second_is in
    record {
      d = f.d;
      others = f.others;
      is = f.is ∙ (λ i. jarray (elem (two i) (elem (id i) (elem (action i) (elem f.d f.others)))));
      behind = f.behind;
      end = f.end;
      payload_is = f.fourth_is;
      more = f.more;
    }
