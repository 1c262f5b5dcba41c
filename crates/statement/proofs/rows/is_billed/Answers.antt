use Rattle.std.proofs.Common.{rules}
use Rattle.ledger.specs.Contents.{events_in}
use Rattle.statement.proofs.Told.{billed_told}
use Rattle.statement.proofs.rows.is_billed.Goals as goal

pub returns : goal.returns
returns c = billed_told (events_in c.args.ledger.now) c.args.place c.row.result c.is_some_and.result _ c.row.ensures c.is_some_and.ensures (λ f p. search rules)
