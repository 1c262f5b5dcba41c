use Rattle.std.proofs.Common.{[], refl}
use Rattle.frame.proofs.Fronts.{alone, opened, skipped}
use Rattle.frame.proofs.members.find_member.Goals as goal
use Rattle.json_text.specs.Grammar.Json.{jobject}

pub returns : goal.returns
returns c = λ called ms e v.
    let o = opened (jobject ms) ms _ [] _ (skipped (alone (jobject ms) _ v)) refl c.in-Some.ensures.found in
    (c.find_inside.ensures.through called e ms [] o).0
