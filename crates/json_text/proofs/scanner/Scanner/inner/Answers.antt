use Rattle.std.proofs.Common.{◌-◌, length, slice_get, sym, ap, ◌∙◌}
use Rattle.json_text.proofs.Stacks.{top_stack}
use Rattle.json_text.proofs.scanner.Scanner.inner.Goals as goal

pub returns : goal.returns
returns c =
    top_stack c.args.self.now.containers.now.items
    ∙ ap (λ xs. slice_get xs (length xs - 1)) (sym c.deref.ensures.0) ∙ sym c.last.ensures.value ∙ sym c.copied.ensures
