use Rattle.std.proofs.Common.{◌≤◌, length, take, sym, refl, ◌∙◌, arith}
use Rattle.runs.proofs.Tables.{between_found, too_many}
use Rattle.runs.specs.Places.{Between}
use Rattle.runs.proofs.table.RunTable.add.Goals as goal
use Rattle.runs.proofs.table.RunTable.add.Goals.{Joined-else-place-self, else-place-self-via-then-place-self+else-not-begins_after, else-place-self-via-else-place-self}

-- no run touches the number
apart : (c : Joined-else-place-self) → Between (take c.args.self.now.count c.args.self.now.runs) c.args.number c.place-place.result
apart c =
    let fits : c.args.self.now.count ≤ length c.args.self.now.runs = omega arith in
    between_found _ _ _ fits _ c.place-place.ensures
    (λ h. elim c.else-place-self.branch [
      | else-place-self-via-then-place-self+else-not-begins_after w ↦ sym w.begins_after.ensures ∙ w.if-not-begins_after.false
      | else-place-self-via-else-place-self w ↦ absurd (omega (arith, w.if-place-self.false))
    ])

pub returns-then-self-eq-MOST_RUNS : goal.returns-then-self-eq-MOST_RUNS
returns-then-self-eq-MOST_RUNS c =
    let at = (goal.at.returns-then-self-eq-MOST_RUNS c).Joined-else-place-self in
    (refl, refl, too_many _ _ _ (omega arith) _ c.if-self-eq-MOST_RUNS.true c.args.self.now.rising (apart at))
