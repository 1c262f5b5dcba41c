use Rattle.std.proofs.Common.{◌≡◌, ◌≤◌, [], ◌∷◌, ◌++◌, length, codes, ap, ◌∙◌, arith, length-append}
use Rattle.draft.proofs.Chains.{Pushed, pushed_length, pushed_text, whole}
use Rattle.draft.proofs.Chains.Pushed.{none, then}
use Rattle.draft.specs.Growing.{text_in}
use Rattle.frame_writer.proofs.Laid.{frame_laid, frame_pieces, message_id_length}
use Rattle.frame_writer.proofs.pieces.frame.Goals as goal
use Rattle.frame_writer.proofs.pieces.frame.Goals.{After-push_text-2}
use Rattle.frame_writer.specs.Compact.{members, other_members}
use Rattle.frame_writer.specs.Tree.{message_id, meter_value, payload_with}
use Rattle.json_text.specs.Grammar.Membs.{no_memb}

-- up to the payload
opening : (c : After-push_text-2) → length (text_in c.push_text-2.new.self) ≡ 48
opening c =
    let t = c.args.transmission in
    let long = message_id_length t.event.station t.event.session t.event.number t.attempt in
    let chain : Pushed (text_in c.new-draft.result) (codes "[2,\"" ∷ message_id t ∷ codes "\",\"TransactionEvent\",{" ∷ []) (text_in c.push_text-2.new.self) =
    then c.push_text.ensures.taken (then (λ _. c.push_message_id.ensures) (then c.push_text-2.ensures.taken none)) in
    omega (arith, ap length c.new-draft.ensures, pushed_length chain (omega (arith, ap length c.new-draft.ensures)))

pub push_event-requires : goal.push_event-requires
push_event-requires c = omega (arith, opening (goal.at.push_event-requires c).After-push_text-2)

pub push_register-requires : goal.push_register-requires
push_register-requires c = omega (arith, opening (goal.at.push_register-requires c).After-push_text-2)

pub returns : goal.returns
returns c =
    let t = c.args.transmission in
    let stamp = c.args.stamp.now in
    let event = members (payload_with stamp t.event no_memb) in
    let register = other_members (meter_value stamp t.event.register) in
    let chain : Pushed (text_in c.new-draft.result) (frame_pieces (message_id t) event register) (text_in c.push_text-3.new.self) =
    then c.push_text.ensures.taken (then (λ _. c.push_message_id.ensures) (then c.push_text-2.ensures.taken
    (then (λ _. c.push_event.ensures.text) (then (λ _. c.push_register.ensures.text) (then c.push_text-3.ensures.taken none))))) in
    let event-short : length event ≤ 200 = omega (arith, ap length c.push_event.ensures.text, length-append (text_in c.push_text-2.new.self) event, c.push_event.ensures.long) in
    let register-short : length register ≤ 150 = omega (arith, ap length c.push_register.ensures.text, length-append (text_in c.push_event.new.draft) register, c.push_register.ensures.long) in
    let id_long = message_id_length t.event.station t.event.session t.event.number t.attempt in
    pushed_text chain (omega (arith, ap length c.new-draft.ensures))
    ∙ ap (λ l. l ++ whole (frame_pieces (message_id t) event register)) c.new-draft.ensures
    ∙ frame_laid stamp t
