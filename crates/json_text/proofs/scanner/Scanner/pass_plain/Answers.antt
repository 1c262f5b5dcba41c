use Rattle.std.proofs.Common.{◌≡◌, ◌+◌, sym, ap, subst, arith}
use Rattle.json_text.specs.Machine.State.{live}
use Rattle.json_text.specs.Machine.Mode.{chars}
use Rattle.json_text.specs.Scanning.{mode_of, stack}
use Rattle.json_text.specs.Verdict.{Passes, state_of}
use Rattle.json_text.proofs.Stacks.{length_stack}
use Rattle.json_text.proofs.Verdicts.{none_passes, plain_passes, string_passes}
use Rattle.json_text.proofs.scanner.Scanner.pass_plain.Goals as goal

pub returns-in_default : goal.returns-in_default
returns-in_default c =
    record { bound = omega arith; passed = none_passes c.args.self.now c.args.rest.now }

pub returns-then-rest-length-eq34 : goal.returns-then-rest-length-eq34
returns-then-rest-length-eq34 c =
    let scanner = c.args.self.now in
    let xs = c.args.rest.now in
    let n = c.plain_length-length.result in
    let k = stack scanner.containers.now.items in
    let from : live (chars c.in-Some.name) k ≡ state_of scanner = sym (ap (λ m. live m k) c.in-Some.ensures) in
    let passes = string_passes c.in-Some.name k xs n (omega (arith, scanner.shallow, length_stack scanner.containers.now.items)) (omega arith) c.plain_length-length.ensures.plain c.if-rest-length-eq34.true in
    record {
      bound = omega arith;
      passed = subst (λ s. Passes s (n + 1) xs (live (mode_of c.after_string-self.result) k)) from (subst (Passes (live (chars c.in-Some.name) k) (n + 1) xs) (sym (c.after_string-self.ensures k)) passes);
    }

pub returns : goal.returns
returns c =
    let scanner = c.args.self.now in
    let k = stack scanner.containers.now.items in
    let from : live (chars c.in-Some.name) k ≡ state_of scanner = sym (ap (λ m. live m k) c.in-Some.ensures) in
    let passes = plain_passes c.in-Some.name k c.args.rest.now c.plain_length-length.result (omega (arith, scanner.shallow, length_stack scanner.containers.now.items)) c.plain_length-length.ensures.bound c.plain_length-length.ensures.plain in
    record { bound = c.plain_length-length.ensures.bound; passed = subst (λ s. Passes s c.plain_length-length.result c.args.rest.now s) from passes }
