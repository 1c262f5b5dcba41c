use Rattle.ids.proofs.Leads.{session_last}
use Rattle.ids.proofs.numbers.Goals as goal

pub returns-in_err-session : goal.returns-in_err-session
returns-in_err-session c = rw c.from_residual-in_err-session.ensures (λ s n w. c.in_err-session.ensures n (session_last _ s n w _ _ c.in_ok-station.ensures))
