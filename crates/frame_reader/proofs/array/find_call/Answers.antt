use Rattle.std.proofs.Common.{codes, sym, ap, ◌∙◌, arith}
use Rattle.frame.proofs.Fours.{nothing_left, same_front, size, some_left}
use Rattle.frame.proofs.Fronts.{braced, more_in, opened, opens_with, skipped}
use Rattle.frame.proofs.Openings.{object_by}
use Rattle.frame_reader.proofs.array.find_call.Goals as goal
use Rattle.json_text.specs.Grammar.Elems.{elem}
use Rattle.json_text.specs.Grammar.Json.{jarray, jnumber, jstring}

pub returns-in_err-call : goal.returns-in_err-call
returns-in_err-call c = λ tree at. rw c.from_residual.ensures (c.in_err-call.ensures tree at)

pub returns-in_err-after : goal.returns-in_err-after
returns-in_err-after c = λ tree at.
    let f = c.in_ok-call.ensures tree at in
    rw c.from_residual-in_err-after.ensures (λ id payload call.
    let g = same_front tree _ _ _ _ _ _ _ _ _ f.is call.is in
    let i = braced f.d payload _ f.behind (skipped f.payload_is) g.3 in
    c.in_err-after.ensures.found i.0 i.1)

pub returns-then-is_some : goal.returns-then-is_some
returns-then-is_some c = λ tree at id payload call.
    let f = c.in_ok-call.ensures tree at in
    let g = same_front tree _ _ _ _ _ _ _ _ _ f.is call.is in
    let walk = c.find_all.ensures payload f.behind (opened f.d payload _ f.behind _ (skipped f.payload_is) g.3 c.in_ok-after.ensures.found) in
    let left = more_in f.others _ f.behind f.end c.after-2.result walk.1 c.after-2.ensures.found f.more in
    omega (arith, some_left f.others f.end c.after-2.result (sym c.if-is_some.ensures) left, ap size g.4)

pub returns : goal.returns
returns c = λ tree at.
    let f = c.in_ok-call.ensures tree at in
    let brace = c.in_ok-after.ensures.found in
    let object = object_by f.d (opens_with f.d _ f.behind 123 _ (skipped f.payload_is) brace) in
    let walk = c.find_all.ensures object.0 f.behind (opened f.d object.0 _ f.behind _ (skipped f.payload_is) object.1 brace) in
    let left = more_in f.others _ f.behind f.end c.after-2.result walk.1 c.after-2.ensures.found f.more in
    let end = nothing_left f.others f.end c.after-2.result (sym c.if-is_some.ensures) left in
    record {
      payload = object.0;
      call = record { is = f.is ∙ (λ i. jarray (elem (jnumber (codes "2")) (elem (jstring c.in_ok-call.call.id.now) (elem (jstring (codes "TransactionEvent")) (elem (object.1 i) (end i)))))) };
      payload_is = walk.0;
    }
