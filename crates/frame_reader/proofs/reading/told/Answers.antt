use Rattle.std.proofs.Common.{codes, sym, ◌∙◌, arith}
use Rattle.frame_reader.proofs.Onlys.{same_some, value_if}
use Rattle.frame_reader.proofs.Same.{same_number}
use Rattle.frame_reader.proofs.reading.told.Goals as goal

pub returns-then-branch-message : goal.returns-then-branch-message
returns-then-branch-message c = λ payload f e lawful t.
    let n = c.in_ok-number.ensures f.seq_no.tree f.seq_no.bytes in
    let same = same_number _ e.number n.0 (omega (arith, lawful.ranges.number_to)) (sym n.1 ∙ same_some f.seq_no.is t.tells.number) in
    c.if-branch-message.true (same ∙ t.number)

pub returns-in_err-time : goal.returns-in_err-time
returns-in_err-time c = λ payload f.
    rw c.from_residual-in_err-time.ensures (λ e lawful t.
    c.in_err-time.ensures f.timestamp.tree f.timestamp.bytes e.time (record { written = t.tells.time.written; is = same_some f.timestamp.is t.tells.time.is; denotes = t.tells.time.denotes }))

pub returns-in_err-flag : goal.returns-in_err-flag
returns-in_err-flag c = λ payload f.
    rw c.from_residual-in_err-flag.ensures (λ e lawful t. c.in_err-flag.ensures _ (value_if (codes "offline") payload _ f.offline) e.offline t.tells.offline)
