use Rattle.conformance.proofs.encoded.hexadecimal.Goals as goal

pub returns-in_err-high : goal.returns-in_err-high
returns-in_err-high c = rw c.from_residual.ensures (λ p h. c.in_err-high.ensures h.high h.high_is)

pub returns-in_err-low : goal.returns-in_err-low
returns-in_err-low c = rw c.from_residual-in_err-low.ensures (λ p h. c.in_err-low.ensures h.low h.low_is)
