use Rattle.std.proofs.Common.{◌≡◌, length, take}
use Rattle.draft.specs.Growing.{Stands}
use Rattle.ledger.specs.Contents.{events_in}
use Rattle.ledger.specs.Held.{sessions}
use Rattle.statement.specs.Parts.{rows_text}
use Rattle.statement.proofs.rows.Lines.write.Given as goal

abbrev pub invariant-loop-place : goal.invariant-loop-place
invariant-loop-place l =
    let text = rows_text (events_in l.self.ledger.now) l.self.price.thousandths l.self.part (take l.place (sessions (events_in l.self.ledger.now))) in
    record { far : l.end ≡ length text; text : Stands text l.initial.out l.out }
