use Rattle.std.proofs.Common.{◌≤◌, length, sym, ◌∙◌, arith, ltb-false}
use Rattle.json_text.specs.Parts.{PlainTo}
use Rattle.json_text.proofs.Plains.{and_plain, none_plain, one_plain, when_true}
use Rattle.json_text.proofs.quoted.are_plain.Goals as goal

pub returns-in-len8-up : goal.returns-in-len8-up
returns-in-len8-up c =
    let s = c.args.s.now in
    when_true {P = (8 ≤ length s) × PlainTo 8 s} _ (λ h. (
      omega (arith, ltb-false),
      and_plain s 7 _ _ (and_plain s 6 _ _ (and_plain s 5 _ _ (and_plain s 4 _ _ (and_plain s 3 _ _ (and_plain s 2 _ _ (and_plain s 1 _ _
          (λ first. one_plain s 0 (none_plain s) (sym c.is_plain.ensures ∙ first))
          c.is_plain-in-len8-up.ensures) c.is_plain-in-len8-up-2.ensures) c.is_plain-in-len8-up-3.ensures) c.is_plain-in-len8-up-4.ensures)
          c.is_plain-in-len8-up-5.ensures) c.is_plain-in-len8-up-6.ensures) c.is_plain-in-len8-up-7.ensures h,
    ))
