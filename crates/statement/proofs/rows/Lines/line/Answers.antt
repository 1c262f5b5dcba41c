use Rattle.std.proofs.Common.{get_or, ◌∙◌}
use Rattle.ledger.specs.Contents.{events_in}
use Rattle.ledger.specs.Held.{sessions}
use Rattle.statement.proofs.Told.{payable, some_id, text_told}
use Rattle.statement.proofs.rows.Lines.line.Goals as goal

pub found_line-requires : goal.found_line-requires
found_line-requires c =
    let events = events_in c.args.self.now.ledger.now in
    payable events (get_or (sessions events) c.args.place some_id) c.in-Some.found (c.in-Some.ensures.1 some_id)

pub returns-in-Some : goal.returns-in-Some
returns-in-Some c = c.found_line.ensures ∙ text_told (events_in c.args.self.now.ledger.now) c.args.place c.args.self.now.price.thousandths c.args.self.now.part c.in-Some.found c.in-Some.ensures
