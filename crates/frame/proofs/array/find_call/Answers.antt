use Rattle.std.proofs.Common.{codes, sym, ap, ◌∙◌, subst, arith}
use Rattle.frame.proofs.Fours.{nothing_left, same_front, size, some_left}
use Rattle.frame.proofs.Fronts.{more_in}
use Rattle.frame.proofs.array.find_call.Goals as goal
use Rattle.frame.proofs.array.find_call.Goals.{then-is_some-via-then-is_some, then-is_some-via-else-is_some+then-not-is_object}
use Rattle.json_text.specs.Grammar.{Value}
use Rattle.json_text.specs.Grammar.Elems.{elem}
use Rattle.json_text.specs.Grammar.Json.{jarray, jnumber, jstring}

pub returns-in_err-call : goal.returns-in_err-call
returns-in_err-call c = λ tree at. rw c.from_residual.ensures (c.in_err-call.ensures tree at)

pub returns-then-is_some : goal.returns-then-is_some
returns-then-is_some c = λ tree at id payload call.
    let f = c.in_ok-call.ensures tree at in
    let g = same_front tree _ _ _ _ _ _ _ _ _ f.is call.is in
    let cut = c.cut.ensures.through f.d f.behind f.payload_is in
    let left = more_in f.others _ f.behind f.end c.after.result cut.1 c.after.ensures.found f.more in
    elim c.then-is_some.branch [
      | then-is_some-via-then-is_some w ↦ omega (arith, some_left f.others f.end c.after.result (sym w.if-is_some.ensures) left, ap size g.4)
      | then-is_some-via-else-is_some+then-not-is_object w ↦ w.if-not-is_object.ensures f.d cut.0 payload g.3
    ]

pub returns : goal.returns
returns c = λ tree at.
    let f = c.in_ok-call.ensures tree at in
    let cut = c.cut.ensures.through f.d f.behind f.payload_is in
    let left = more_in f.others _ f.behind f.end c.after.result cut.1 c.after.ensures.found f.more in
    let end = nothing_left f.others f.end c.after.result (sym c.if-is_some.ensures) left in
    let object = c.if-not-is_object.ensures f.d cut.0 in
    record {
      payload = object.0;
      call = record { is = f.is ∙ (λ i. jarray (elem (jnumber (codes "2")) (elem (jstring c.in_ok-call.call.id.now) (elem (jstring (codes "TransactionEvent")) (elem (object.1 i) (end i)))))) };
      payload_is = subst (λ t. Value t c.cut.result.0.now) object.1 cut.0;
    }
