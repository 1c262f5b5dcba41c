use Rattle.std.proofs.Common.{rules, ◌≡◌, subst}
use Rattle.runs.proofs.Tables.{highest_told}
use Rattle.runs.specs.Gaps.{highest}
use Rattle.runs.proofs.table.RunTable.highest.Goals as goal

pub returns : goal.returns
returns c =
    subst (λ rs. c.map_or.result ≡ highest rs) c.as_slice.ensures
    (highest_told c.as_slice.result.now c.last.result c.map_or.result _ c.last.ensures.value c.map_or.ensures (λ r p. search rules))
