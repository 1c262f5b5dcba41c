use Rattle.std.proofs.Common.{◌≡◌, ◌+◌, ◌*◌, ◌≤◌, ◌∷◌, ◌++◌, length, take}
use Rattle.draft.specs.Growing.{text_in}
use Rattle.statement.specs.Lines.{stretch_text}
use Rattle.std.specs.List.{flat_map}
use Rattle.statement.proofs.line.push_stretches.Given as goal

abbrev pub invariant-loop-run : goal.invariant-loop-run
invariant-loop-run l = record {
  text : text_in l.line ≡ text_in l.initial.line ++ flat_map (λ q. 44 ∷ stretch_text q) (take l.run-index l.rest);
  long : length (text_in l.line) ≤ length (text_in l.initial.line) + 42 * l.run-index;
}
