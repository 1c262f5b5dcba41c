use Rattle.std.proofs.Common.{◌≡◌, length, Ok, Err, refl, ap, inl, inr, arith, true-eqb, false-eqb}
use Rattle.layers.specs.Below.{free_of}
use Rattle.layers.specs.Spool.{SpoolSends, spooled}
use Rattle.layers.proofs.SpoolLaws.{laid, send_law}
use Rattle.layers.proofs.spool.SpoolChannel.send.Goals as goal
use Rattle.layers.proofs.spool.SpoolChannel.send.Goals.{else-is_empty-via-then-is_empty+else-free_count-gt0, else-is_empty-via-else-is_empty}
use Rattle.std.proofs.lemmas.List.{nil_from_length}

-- below is open and nothing is held
pub returns-then-free_count-gt0 : goal.returns-then-free_count-gt0
returns-then-free_count-gt0 g c =
    let before = c.args.self.now in
    let passing = c.pass_down.new.self in
    let rule : SpoolSends g.C.Channel (spooled before) c.args.item c.send.result (laid c.send.new.self passing.held.items) =
    record {
      passing = spooled passing;
      passes = c.pass_down.ensures.passes;
      goes = inl (record {
        none_held = nil_from_length passing.held.items (true-eqb _ 0 c.if-is_empty.ensures);
        was_open = omega arith;
        sent = record { law = c.send.ensures.law; rule = c.send.ensures.rule };
        same = refl;
      });
    } in
    record { law = send_law g.C.Channel _ c.args.item c.send.result _ c.pass_down.ensures.fits rule; rule = rule }

-- every place is taken
pub returns-then-is_full : goal.returns-then-is_full
returns-then-is_full g c =
    let before = c.args.self.now in
    let passing = c.pass_down.new.self in
    let full : length passing.held.items ≡ 32 = true-eqb _ 32 c.if-is_full.ensures.value in
    let closed : free_of g.C.Channel passing.below ≡ 0 =
    elim c.pass_down.ensures.passes.ends [ inl e ↦ absurd (omega (arith, ap length e, full)) | inr z ↦ z ] in
    let rule : SpoolSends g.C.Channel (spooled before) c.args.item (Err (record { layer = 3 })) (spooled passing) =
    record {
      passing = spooled passing;
      passes = c.pass_down.ensures.passes;
      goes = inr (inr (record { closed = closed; full = full; same = refl; by = refl }));
    } in
    record { law = send_law g.C.Channel _ c.args.item (Err (record { layer = 3 })) _ c.pass_down.ensures.fits rule; rule = rule }

-- the item is held
pub returns : goal.returns
returns g c =
    let before = c.args.self.now in
    let passing = c.pass_down.new.self in
    let item = c.args.item in
    let closed : free_of g.C.Channel passing.below ≡ 0 =
    elim c.else-is_empty.branch [
      | else-is_empty-via-then-is_empty+else-free_count-gt0 w ↦ omega arith
      | else-is_empty-via-else-is_empty w ↦
          elim c.pass_down.ensures.passes.ends [ inl e ↦ absurd (false-eqb _ 0 w.if-is_empty.ensures (ap length e)) | inr z ↦ z ]
    ] in
    let rule : SpoolSends g.C.Channel (spooled before) item (Ok tt) (laid passing.below c.push.new.self.items) =
    record {
      passing = spooled passing;
      passes = c.pass_down.ensures.passes;
      goes = inr (inl (record { closed = closed; room = omega (arith, false-eqb _ 32 c.if-is_full.ensures.value, c.is_full.ensures.fits); newest = c.push.ensures.items; same = refl; done = refl }));
    } in
    record { law = send_law g.C.Channel _ item (Ok tt) _ c.pass_down.ensures.fits rule; rule = rule }
