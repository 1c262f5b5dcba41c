use Rattle.std.proofs.Common.{◌&&◌, sym, ap₂, ◌∙◌}
use Rattle.json_text.proofs.Stacks.{none_stacked}
use Rattle.json_text.proofs.scanner.Scanner.is_complete.Goals as goal

pub returns-then-ends_value : goal.returns-then-ends_value
returns-then-ends_value c =
    c.is_empty.ensures ∙ sym (ap₂ ◌&&◌ (sym c.if-ends_value.ensures) (none_stacked c.args.self.now.containers.now.items))
