use Rattle.std.proofs.Common.{◌≡◌, suc, ◌+◌, ◌-◌, ◌<◌, true, leb, get_or, take, set, sym, ◌∙◌, subst, arith, length-set}
use borrow.Rule.Slice.PartMut.{put_mid, same_len_mid}
use Rattle.runs.proofs.Tables.{joined_table, some_run, widened_table}
use Rattle.runs.specs.Stretches.{Stretches, covers, with_number}
use Rattle.runs.specs.declared.table.RunTable.{RunTable}
use Rattle.runs.proofs.table.RunTable.extend_at.Goals as goal
use Rattle.runs.proofs.table.RunTable.extend_at.Goals.{After-rotate_left, After-widen, else-next-end-via-then-next-end+else-not-begins_after, else-next-end-via-else-next-end}

-- the next run stays apart
widened : (c : After-widen) → (c.args.place + 1 < c.args.self.now.count → leb (suc (suc (get_or (set c.args.self.now.runs c.args.place c.widen.new.self) c.args.place some_run).last)) (get_or (set c.args.self.now.runs c.args.place c.widen.new.self) (c.args.place + 1) some_run).first ≡ true) → Stretches (with_number (covers (take c.args.self.now.count c.args.self.now.runs)) c.args.number) (take c.args.self.now.count (set c.args.self.now.runs c.args.place c.widen.new.self))
widened c apart =
    widened_table c.args.self.now.runs c.args.self.now.count c.args.place c.args.number c.args.self.now.rising
    (omega arith) c.requires c.widen.new.self c.widen.ensures apart

-- the next run is taken in too
joined : (c : After-rotate_left) → Stretches (with_number (covers (take c.args.self.now.count c.args.self.now.runs)) c.args.number) (take (c.args.self.now.count - 1) (put_mid (c.args.place + 1) (c.args.self.now.count - (c.args.place + 1)) (set (set c.args.self.now.runs c.args.place c.widen.new.self) c.args.place c.join.new.self) c.rotate_left.new.self))
joined c =
    joined_table c.args.self.now.runs c.args.self.now.count c.args.place c.args.number c.args.self.now.rising
    (omega arith) c.requires c.widen.new.self c.widen.ensures c.rotate_left.new.self c.join.new.self c.if-next-end.true
    (sym c.begins_after.ensures ∙ c.if-not-begins_after.true) c.join.ensures c.rotate_left.ensures.len c.rotate_left.ensures.by_index.0

pub invariant_of-self : goal.invariant_of-self
invariant_of-self c = record { fits = (omega arith, same_len_mid _ _ _ _ c.rotate_left.ensures.len ∙ length-set (set c.args.self.now.runs c.args.place c.widen.new.self) c.args.place c.join.new.self ∙ length-set c.args.self.now.runs c.args.place c.widen.new.self ∙ c.args.self.now.fits.1); rising = (joined c).rising }

pub invariant_of-self-else-not-begins_after : goal.invariant_of-self-else-not-begins_after
invariant_of-self-else-not-begins_after c = record { fits = (omega arith, simp length-set c.args.self.now.fits.1); rising = (widened (goal.at.invariant_of-self-else-not-begins_after c).After-widen (λ _. sym c.begins_after.ensures ∙ c.if-not-begins_after.false)).rising }

pub invariant_of-self-else-next-end : goal.invariant_of-self-else-next-end
invariant_of-self-else-next-end c = record { fits = (omega arith, simp length-set c.args.self.now.fits.1); rising = (widened (goal.at.invariant_of-self-else-next-end c).After-widen (λ h. absurd (omega arith))).rising }

pub returns-then-not-begins_after : goal.returns-then-not-begins_after
returns-then-not-begins_after c = joined (goal.at.returns-then-not-begins_after c).After-rotate_left

pub returns-else-next-end : goal.returns-else-next-end
returns-else-next-end c =
    let at = (goal.at.returns-else-next-end c).After-widen in
    let P : RunTable → Type 0 = λ t. Stretches (with_number (covers (take c.args.self.now.count c.args.self.now.runs)) c.args.number) (take t.count t.runs) in
    elim c.else-next-end.branch [
      | else-next-end-via-then-next-end+else-not-begins_after w ↦ subst P (sym w.self-is) (widened at (λ _. sym w.begins_after.ensures ∙ w.if-not-begins_after.false))
      | else-next-end-via-else-next-end w ↦ subst P (sym w.self-is) (widened at (λ h. absurd (omega (arith, w.if-next-end.false))))
    ]
