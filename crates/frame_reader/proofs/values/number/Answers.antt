use Rattle.std.proofs.Common.{arith}
use Rattle.frame_reader.proofs.Forms.{not_plain, plain_number, too_large}
use Rattle.frame_reader.proofs.values.number.Goals as goal

pub returns-in_err-number : goal.returns-in_err-number
returns-in_err-number c = λ tree v. rw c.from_residual.ensures (not_plain tree _ v c.in_err-number.ensures)

pub returns-then-number-gt-LARGEST_REGISTER : goal.returns-then-number-gt-LARGEST_REGISTER
returns-then-number-gt-LARGEST_REGISTER c = λ tree v. too_large tree _ _ v c.in_ok-number.ensures.1 (omega arith)

pub returns : goal.returns
returns c = λ tree v.
    let plain = c.in_ok-number.ensures in
    (omega arith, plain_number tree _ _ v plain.0 plain.1 (omega arith))
