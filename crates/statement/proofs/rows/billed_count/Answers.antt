use Rattle.std.proofs.Common.{◌≡◌, length, filter, rules, ap, ◌∙◌, arith}
use Rattle.std.proofs.lemmas.Iterator.{YieldsList-from_range}
use Rattle.std.proofs.lemmas.Iterator.Consumers.{count_from_yields_List, YieldsList-from_filter}
use Rattle.std.specs.List.{range_with_len}
use Rattle.ledger.specs.Contents.{events_in}
use Rattle.statement.proofs.Told.{places_billed}
use Rattle.statement.specs.Parts.{billed_at}
use Rattle.statement.proofs.rows.billed_count.Goals as goal

pub returns : goal.returns
returns c =
    let events = events_in c.args.ledger.now in
    let counted : c.count.result ≡ length (filter (billed_at events) (range_with_len 0 c.len.result)) =
    count_from_yields_List _ _ c.count.ensures.ran (YieldsList-from_filter _ (billed_at events) (YieldsList-from_range 0 c.len.result c.len.result c.filter.ensures.source (omega arith)) c.filter.ensures.closure (λ x b q k. search rules)) in
    counted ∙ ap (λ n. length (filter (billed_at events) (range_with_len 0 n))) c.len.ensures ∙ places_billed events
