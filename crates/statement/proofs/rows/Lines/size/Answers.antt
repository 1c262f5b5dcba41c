use Rattle.std.proofs.Common.{◌≡◌, ℕ, ◌≤◌, length, lit<, rules, ap, ◌∙◌, arith}
use Rattle.std.proofs.lemmas.Iterator.{YieldsList-from_range, YieldsList-from_map}
use Rattle.std.proofs.lemmas.Iterator.Adapters.{at_most_from_yields_List, fits_from_length}
use Rattle.std.proofs.lemmas.Iterator.Consumers.{sum_by_from_yields_List}
use Rattle.std.proofs.lemmas.List.FromFn.{length-range_with_len}
use Rattle.std.specs.List.{range_with_len, sum_by}
use Rattle.ledger.specs.Contents.{events_in}
use Rattle.statement.specs.Parts.{text_at}
use Rattle.statement.proofs.Told.{few_sessions, places_size}
use Rattle.statement.proofs.rows.Lines.size.Goals as goal
use Rattle.statement.proofs.rows.Lines.size.Goals.{After-map}

pub sum-requires-clause-fits : goal.sum-requires-clause-fits
sum-requires-clause-fits c =
    fits_from_length _ _ 1024 _ (at_most_from_yields_List (YieldsList-from_range 0 c.len.result c.len.result c.map.ensures.source (omega arith)) (omega (arith, length-range_with_len 0 c.len.result, c.len.ensures, few_sessions c.args.self.now.ledger.now))) c.map.ensures.closure (lit< tt) (λ x r q k. search rules)

pub returns : goal.returns
returns c =
    let events = events_in c.args.self.now.ledger.now in
    let each = λ (k : ℕ). length (text_at events c.args.self.now.price.thousandths c.args.self.now.part k) in
    let summed : c.sum.result ≡ sum_by each (range_with_len 0 c.len.result) =
    sum_by_from_yields_List each (range_with_len 0 c.len.result) _ _ c.sum.ensures.ran (YieldsList-from_map _ each (YieldsList-from_range 0 c.len.result c.len.result c.map.ensures.source (omega arith)) c.map.ensures.closure (λ x r q k. search rules)) in
    let few : length (range_with_len 0 c.len.result) ≤ 1024 = omega (arith, length-range_with_len 0 c.len.result, c.len.ensures, few_sessions c.args.self.now.ledger.now) in
    let run = c.sum.ensures.runs tt in
    let below = fits_from_length _ _ 1024 1048577 (at_most_from_yields_List (YieldsList-from_range 0 c.len.result c.len.result c.map.ensures.source (omega arith)) few) c.map.ensures.closure (lit< tt) (λ x r q k. search rules) run.0 run.0.seen run.1 in
    record {
      size = summed ∙ ap (λ n. sum_by each (range_with_len 0 n)) c.len.ensures ∙ places_size events c.args.self.now.price.thousandths c.args.self.now.part;
      bound = omega (arith, below, run.3);
    }
