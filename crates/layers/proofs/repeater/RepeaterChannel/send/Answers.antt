use Rattle.std.proofs.Common.{◌≡◌, ◌≤◌, ◌⊎◌, replicate, Ok, Err, sym, ap, ◌∙◌, subst, inl, inr, arith}
use Rattle.channel.specs.Laws.{Sends}
use Rattle.layers.specs.Below.{Sent, Took, free_of}
use Rattle.layers.specs.Limits.{times_for}
use Rattle.layers.specs.Repeater.{ClosedBelow, RepeaterSends, Repeats, repeater_meaning}
use Rattle.layers.proofs.RepeaterLaws.{all_room, first_refused, one_more, send_law}
use Rattle.layers.proofs.repeater.RepeaterChannel.send.Goals as goal
use Rattle.layers.proofs.repeater.RepeaterChannel.send.Goals.{else-free-gt0-via-then-free-gt0+else-free-times, else-free-gt0-via-else-free-gt0}
use Rattle.std.proofs.lemmas.Result.{err_from_is_err_and}

pub returns-in_err-send : goal.returns-in_err-send
returns-in_err-send g c =
    let repeater = c.args.self.now in
    let times = times_for repeater.n in
    let some : 1 ≤ times = omega arith in
    let loop = c.loop-copy in
    let fault = c.in_err-send.field-0.0 in
    let sent : Sent g.C.Channel loop.self.below c.args.item (Err fault) c.send.new.self =
    subst (λ r. Sent g.C.Channel loop.self.below c.args.item r c.send.new.self) c.in_err-send.was
    (record { law = c.send.ensures.law; rule = c.send.ensures.rule }) in
    let open-or-not : (free_of g.C.Channel repeater.below ≡ 0) ⊎ (times ≤ free_of g.C.Channel repeater.below) =
    elim c.else-free-gt0.branch [
      | else-free-gt0-via-then-free-gt0+else-free-times w ↦ inr (omega arith)
      | else-free-gt0-via-else-free-gt0 w ↦ inl (omega arith)
    ] in
    let closed : ClosedBelow g.C.Channel times repeater.below c.args.item fault c.send.new.self =
    first_refused g.C.Channel times some loop._copy repeater.below loop.self.below c.send.new.self c.args.item fault (omega arith) open-or-not loop.invariant.0 sent in
    let back = err_from_is_err_and c.from_residual.result c.from_residual.ensures.1 in
    let returned : c.from_residual.result ≡ Err fault = back.1 ∙ ap Err back.2 in
    let law = send_law g.C.Channel times some repeater.below c.args.item (Err fault) c.send.new.self (inl closed) in
    record {
      law = subst (λ r. Sends (repeater_meaning g.C.Channel times repeater.below) c.args.item r (repeater_meaning g.C.Channel (times_for loop.self.n) c.send.new.self)) (sym returned)
          (subst (λ n. Sends (repeater_meaning g.C.Channel times repeater.below) c.args.item (Err fault) (repeater_meaning g.C.Channel (times_for n) c.send.new.self)) (sym loop.invariant.1) law);
      rule = (subst (λ r. RepeaterSends g.C.Channel times repeater.below c.args.item r c.send.new.self) (sym returned) (inl closed), loop.invariant.1);
    }

pub loop-copy-preserved : goal.loop-copy-preserved
loop-copy-preserved g c =
    let times = times_for c.args.self.now.n in
    let some : 1 ≤ times = omega arith in
    let loop = c.loop-copy in
    let sent : Sent g.C.Channel loop.self.below c.args.item (Ok tt) c.send.new.self =
    subst (λ r. Sent g.C.Channel loop.self.below c.args.item r c.send.new.self) c.in_ok-send.was
    (record { law = c.send.ensures.law; rule = c.send.ensures.rule }) in
    (one_more g.C.Channel times some loop._copy c.args.self.now.below loop.self.below c.send.new.self c.args.item loop.invariant.0 sent, loop.invariant.1)

pub returns : goal.returns
returns g c =
    let repeater = c.args.self.now in
    let times = times_for repeater.n in
    let some : 1 ≤ times = omega arith in
    let loop = c.loop-copy in
    let b' = loop.self.below in
    let down : Took g.C.Channel repeater.below (replicate times c.args.item) b' =
    subst (λ n. Took g.C.Channel repeater.below (replicate n c.args.item) b') {x = loop._copy} {y = times} (omega arith) loop.invariant.0 in
    let open-or-not : (free_of g.C.Channel repeater.below ≡ 0) ⊎ (times ≤ free_of g.C.Channel repeater.below) =
    elim c.else-free-gt0.branch [
      | else-free-gt0-via-then-free-gt0+else-free-times w ↦ inr (omega arith)
      | else-free-gt0-via-else-free-gt0 w ↦ inl (omega arith)
    ] in
    let room = all_room g.C.Channel times some repeater.below b' c.args.item open-or-not down in
    let all : Repeats g.C.Channel times repeater.below c.args.item b' = record { room = room; down = down } in
    record {
      law = subst (λ n. Sends (repeater_meaning g.C.Channel times repeater.below) c.args.item (Ok tt) (repeater_meaning g.C.Channel (times_for n) b')) (sym loop.invariant.1)
          (send_law g.C.Channel times some repeater.below c.args.item (Ok tt) b' all);
      rule = (all, loop.invariant.1);
    }
