use Rattle.std.proofs.Common.{◌≡◌, ◌+◌, ◌≤◌, drop}
use Rattle.json_text.specs.Beginnings.Spot.{outside}
use Rattle.json_text.specs.Parts.{closing}
use Rattle.json_text.specs.Spots.{spot_of}
use Rattle.json_text.proofs.nested.closing_length.Given as goal

abbrev pub invariant-loop-i : goal.invariant-loop-i
invariant-loop-i l = (l.i + closing (spot_of l.spot) l.depth (drop l.i l.s) ≡ closing outside 0 l.s) × (l.depth ≤ l.i)
