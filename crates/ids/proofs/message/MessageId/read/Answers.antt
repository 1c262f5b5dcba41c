use Rattle.ids.proofs.Leads.{attempt_last, number_leads, session_leads}
use Rattle.ids.proofs.message.MessageId.read.Goals as goal

pub returns-in_err-session : goal.returns-in_err-session
returns-in_err-session c =
    rw c.from_residual-in_err-session.ensures
    (λ id m. c.in_err-session.ensures _ _ (session_leads _ id m _ _ c.in_ok-station.ensures))

pub returns-in_err-number : goal.returns-in_err-number
returns-in_err-number c =
    rw c.from_residual-in_err-number.ensures
    (λ id m. c.in_err-number.ensures _ _ (number_leads _ id m _ _ _ _ c.in_ok-station.ensures c.in_ok-session.ensures))

pub returns-in_err-take_last : goal.returns-in_err-take_last
returns-in_err-take_last c =
    rw c.from_residual-in_err-take_last.ensures
    (λ id m. c.in_err-take_last.ensures id.attempt (attempt_last _ id m _ _ _ _ _ _ c.in_ok-station.ensures c.in_ok-session.ensures c.in_ok-number.ensures))
