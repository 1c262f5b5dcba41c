use Rattle.std.proofs.Common.{[], ◌∷◌, length, sym, refl, ap, ◌∙◌, inr, arith}
use Rattle.std.proofs.lemmas.Bool.{eqb-true}
use Rattle.json_text.specs.Machine.State.{live}
use Rattle.json_text.specs.Scanning.{kind_of, mode_of, opened_in, stack}
use Rattle.json_text.proofs.Stacks.{length_stack, stacked_last, too_far}
use Rattle.json_text.proofs.scanner.Scanner.push.Goals as goal
use Rattle.json_text.proofs.scanner.Scanner.push.Goals.{in-Array, in-Object}

pub returns-then-is_full : goal.returns-then-is_full
returns-then-is_full c =
    let full = eqb-true (length c.args.self.now.containers.now.items) _ (sym c.is_full.ensures.value ∙ c.if-is_full.true) in
    inr (refl, too_far c.args.container (stack c.args.self.now.containers.now.items) (omega (arith, full, length_stack c.args.self.now.containers.now.items)))

pub returns : goal.returns
returns c =
    let xs = c.args.self.now.containers.now.items in
    let k = stack xs in
    ap (λ ys. live (mode_of c.match-container.self) (stack ys)) c.push.ensures.items
    ∙ ap (live (mode_of c.match-container.self)) (stacked_last [] xs c.args.container)
    ∙ elim c.match-container.branch [
      | in-Array w ↦ (λ i. live (mode_of (w.self-is i)) (kind_of (w.in-Array.is i) ∷ k)) ∙ sym (ap (λ x. opened_in x k) w.in-Array.is)
      | in-Object w ↦ (λ i. live (mode_of (w.self-is i)) (kind_of (w.in-Object.is i) ∷ k)) ∙ sym (ap (λ x. opened_in x k) w.in-Object.is)
    ]
