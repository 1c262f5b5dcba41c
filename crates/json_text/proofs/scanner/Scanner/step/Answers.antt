use Rattle.std.proofs.Common.{Some, sym, ap, ◌∙◌}
use Rattle.json_text.specs.Machine.Mode.{after}
use Rattle.json_text.specs.Machine.State.{live}
use Rattle.json_text.specs.Scanning.{moved, stack}
use Rattle.json_text.proofs.Stacks.{stack_pop}
use Rattle.json_text.proofs.scanner.Scanner.step.Goals as goal

pub returns-in-Some-Close : goal.returns-in-Some-Close
returns-in-Some-Close c =
    let xs = c.args.self.now.containers.now.items in
    ap (λ ys. live after (stack ys)) c.pop.ensures.rest ∙ ap (live after) (stack_pop xs) ∙ ap (λ m. moved (Some m) (stack xs)) (sym c.in-Some-Close.field-0-is) ∙ c.in-Some-Close.ensures (stack xs) c.inner.ensures
