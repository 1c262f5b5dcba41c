use Rattle.std.proofs.Common.{◌≡◌, sym, ◌∙◌, subst}
use Rattle.event.specs.Lawful.{LawfulTransmission}
use Rattle.frame_reader.proofs.Same.{message_of, same_told, small, written_of}
use Rattle.frame_reader.proofs.reading.transmission.Goals as goal
use Rattle.ids.proofs.Leads.{same_message}
use Rattle.std.proofs.lemmas.Bool.{true≢false}

pub returns-in_err-message : goal.returns-in_err-message
returns-in_err-message c = λ payload f.
    rw c.from_residual.ensures (λ t s. c.in_err-message.ensures (message_of t) (written_of _ payload t s))

pub returns-in_err-event : goal.returns-in_err-event
returns-in_err-event c = λ payload f.
    rw c.from_residual-in_err-event.ensures (λ t s.
    let n = same_message _ _ _ (written_of _ payload t s) c.in_ok-message.ensures in
    c.in_err-event.ensures payload f t.event s.lawful.event (record { station = n.station; session = n.session; number = n.number; tells = s.tells }))

pub returns-else-is_lawful : goal.returns-else-is_lawful
returns-else-is_lawful c = λ payload f t s.
    let told = c.in_ok-event.ensures payload f in
    let n = same_message _ _ _ (written_of _ payload t s) c.in_ok-message.ensures in
    let same : t ≡ record { event = c.in_ok-event.event; attempt = c.in_ok-message.message.attempt } =
    same_told payload t _
    (record { station = n.station ∙ sym told.0.station; session = n.session ∙ sym told.0.session; number = n.number ∙ sym told.0.number; attempt = n.attempt })
    s.tells told.0.tells (small t s.lawful) told.1 in
    true≢false (sym (c.if-is_lawful.ensures.1 (subst LawfulTransmission same s.lawful)))
