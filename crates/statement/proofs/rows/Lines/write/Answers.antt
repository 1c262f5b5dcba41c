use Rattle.std.proofs.Common.{◌≡◌, ◌+◌, ◌-◌, ◌≤◌, ◌++◌, length, take, sym, ap, ◌∙◌, subst, arith, rules}
use borrow.Rule.Slice.PartMut.{put_mid}
use Rattle.draft.specs.Growing.{Stands}
use Rattle.ledger.specs.Contents.{events_in}
use Rattle.ledger.specs.Held.{sessions}
use Rattle.statement.proofs.Puts.{stands_copy}
use Rattle.statement.proofs.Told.{rows_below, rows_more, size_more}
use Rattle.statement.specs.Parts.{rows_text, text_at}
use Rattle.statement.proofs.rows.Lines.write.Goals as goal
use Rattle.statement.proofs.rows.Lines.write.Goals.{After-len}

-- where the line ends
next_is : (c : After-len) → c.loop-place.end + c.len.result ≡ length (rows_text (events_in c.args.self.now.ledger.now) c.args.self.now.price.thousandths c.args.self.now.part (take (c.loop-place.place + 1) (sessions (events_in c.args.self.now.ledger.now))))
next_is c =
    omega (arith, size_more (events_in c.args.self.now.ledger.now) c.args.self.now.price.thousandths c.args.self.now.part c.loop-place.place (omega arith), c.len.ensures.value, ap length c.line-line.ensures, c.loop-place.invariant.far)

-- and that is within the buffer
within : (c : After-len) → c.loop-place.end + c.len.result ≤ length c.args.out.now
within c =
    let events = events_in c.args.self.now.ledger.now in
    omega (arith, next_is c, rows_below events c.args.self.now.price.thousandths c.args.self.now.part (sessions events) (c.loop-place.place + 1), c.requires)

pub slice_bounds-copy_from_slice-end : goal.slice_bounds-copy_from_slice-end
slice_bounds-copy_from_slice-end c =
    let h = within (goal.at.slice_bounds-copy_from_slice-end c).After-len in
    let k = c.loop-place.auto.out in
    search rules

pub loop-place-preserved : goal.loop-place-preserved
loop-place-preserved c =
    let at = (goal.at.loop-place-preserved c).After-len in
    let events = events_in c.args.self.now.ledger.now in
    let rows = rows_text events c.args.self.now.price.thousandths c.args.self.now.part (take c.loop-place.place (sessions events)) in
    let copied : c.copy_from_slice.new.self ≡ text_at events c.args.self.now.price.thousandths c.args.self.now.part c.loop-place.place = c.copy_from_slice.ensures.after ∙ c.text.ensures ∙ c.line-line.ensures in
    let more : rows ++ c.copy_from_slice.new.self ≡ rows_text events c.args.self.now.price.thousandths c.args.self.now.part (take (c.loop-place.place + 1) (sessions events)) = ap (λ l. rows ++ l) copied ∙ sym (rows_more events c.args.self.now.price.thousandths c.args.self.now.part c.loop-place.place (omega arith)) in
    record {
      far = next_is at;
      text = subst (λ l. Stands l c.args.out.now (put_mid c.loop-place.end (c.loop-place.end + c.len.result - c.loop-place.end) c.loop-place.out c.copy_from_slice.new.self)) more
          (stands_copy rows c.args.out.now c.loop-place.out c.copy_from_slice.new.self c.loop-place.end (c.loop-place.end + c.len.result) c.loop-place.invariant.text
          c.loop-place.invariant.far
          (omega (arith, c.len.ensures.value, ap length (c.copy_from_slice.ensures.after ∙ c.text.ensures)))
          (within at));
    }
