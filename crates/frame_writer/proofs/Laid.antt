-- The pieces that are pushed make up the compact text. Assumes nothing.
use Rattle.std.proofs.Common.{◌≡◌, ℕ, List, [], ◌∷◌, ◌++◌, length, Some, codes, decimal, sym, refl, ap, ◌∙◌, append_assoc, append-nil}
use Rattle.decimal.specs.Decimal.{fixed}
use Rattle.draft.proofs.Chains.{whole}
use Rattle.event.specs.declared.events.Event.{Event}
use Rattle.event.specs.declared.events.Transmission.{Transmission}
use Rattle.frame.specs.Call.{array_of_four}
use Rattle.frame_reader.specs.Frame.{flag}
use Rattle.event.specs.Names.{reason_text, type_text}
use Rattle.frame_writer.specs.Compact.{compact, members, other_members}
use Rattle.frame_writer.specs.Tree.{bytes_of, message_id, meter_value, payload, payload_with}
use Rattle.ids.specs.Ids.{id_text, message_id_text}
use Rattle.json_text.specs.Grammar.{Json, Membs}
use Rattle.json_text.specs.Grammar.Json.{jnumber, jobject, jstring}
use Rattle.json_text.specs.Grammar.Membs.{no_memb, memb}

pub id_length : (station session : ℕ) → length (id_text station session) ≡ 14
unfolding fixed
id_length station session = refl

pub message_id_length : (station session number attempt : ℕ) → length (message_id_text station session number attempt) ≡ 22
unfolding fixed
message_id_length station session number attempt = refl

-- the members of every payload
abbrev pub event_pieces : (kind stamp reason number offline id : List ℕ) → List (List ℕ)
event_pieces kind stamp reason number offline id =
    codes "\"eventType\":\"" ∷ kind ∷ codes "\",\"timestamp\":\"" ∷ stamp ∷ codes "\",\"triggerReason\":\"" ∷ reason ∷ codes "\",\"seqNo\":" ∷ number
    ∷ codes ",\"offline\":" ∷ offline ∷ codes ",\"transactionInfo\":{\"transactionId\":\"" ∷ id ∷ codes "\"}" ∷ []

-- the same members as a tree, with others behind them
abbrev event_members : (kind stamp reason number : List ℕ) (offline : Json) (id : List ℕ) (others : Membs) → Membs
event_members kind stamp reason number offline id others =
    memb (codes "eventType") (jstring kind)
    (memb (codes "timestamp") (jstring stamp)
    (memb (codes "triggerReason") (jstring reason)
    (memb (codes "seqNo") (jnumber number)
    (memb (codes "offline") offline
    (memb (codes "transactionInfo") (jobject (memb (codes "transactionId") (jstring id) no_memb)) others)))))

laid_with : (kind stamp reason number : List ℕ) (offline : Json) (id : List ℕ) (others : Membs) → whole (event_pieces kind stamp reason number (compact offline) id) ++ other_members others ≡ members (event_members kind stamp reason number offline id others)
laid_with kind stamp reason number offline id others = simp (append_assoc, append-nil)

laid_alone : (kind stamp reason number : List ℕ) (offline : Json) (id : List ℕ) → whole (event_pieces kind stamp reason number (compact offline) id) ≡ members (event_members kind stamp reason number offline id no_memb)
laid_alone kind stamp reason number offline id = simp (append_assoc, append-nil)

module _ (stamp : List ℕ) (e : Event) where
  pub event_laid : whole (event_pieces (type_text e.kind) stamp (reason_text e.reason) (decimal e.number) (compact (flag e.offline)) (id_text e.station e.session)) ≡ members (payload_with stamp e no_memb)
  event_laid = laid_alone (type_text e.kind) stamp (reason_text e.reason) (decimal e.number) (flag e.offline) (id_text e.station e.session)

  event_before : (others : Membs) → members (payload_with stamp e no_memb) ++ other_members others ≡ members (payload_with stamp e others)
  event_before others =
      ap (λ l. l ++ other_members others) (sym event_laid)
      ∙ laid_with (type_text e.kind) stamp (reason_text e.reason) (decimal e.number) (flag e.offline) (id_text e.station e.session) others

-- the member of the register
abbrev pub meter_pieces : (stamp wh : List ℕ) → List (List ℕ)
meter_pieces stamp wh =
    codes ",\"meterValue\":[{\"timestamp\":\"" ∷ stamp ∷ codes "\",\"sampledValue\":[{\"value\":" ∷ wh
    ∷ codes ",\"measurand\":\"Energy.Active.Import.Register\"}]}]" ∷ []

pub meter_laid : (stamp : List ℕ) (wh : ℕ) → whole (meter_pieces stamp (decimal wh)) ≡ other_members (meter_value stamp (Some wh))
meter_laid stamp wh = simp (append_assoc, append-nil)

-- all of it
abbrev pub frame_pieces : (id event register : List ℕ) → List (List ℕ)
frame_pieces id event register = codes "[2,\"" ∷ id ∷ codes "\",\"TransactionEvent\",{" ∷ event ∷ register ∷ codes "}]" ∷ []

frame_around : (id : List ℕ) (ms : Membs) → codes "[2,\"" ++ (id ++ (codes "\",\"TransactionEvent\",{" ++ (members ms ++ codes "}]"))) ≡ compact (array_of_four (jnumber (codes "2")) (jstring id) (jstring (codes "TransactionEvent")) (jobject ms))
frame_around id ms = simp (append_assoc, append-nil)

pub frame_laid : (stamp : List ℕ) (t : Transmission) → whole (frame_pieces (message_id t) (members (payload_with stamp t.event no_memb)) (other_members (meter_value stamp t.event.register))) ≡ bytes_of stamp t
frame_laid stamp t =
    let others = meter_value stamp t.event.register in
    let around : List ℕ → List ℕ = λ l. codes "[2,\"" ++ (message_id t ++ (codes "\",\"TransactionEvent\",{" ++ l)) in
    ap around (sym (append_assoc (members (payload_with stamp t.event no_memb)) (other_members others) (codes "}]")) ∙ ap (λ l. l ++ codes "}]") (event_before stamp t.event others))
    ∙ frame_around (message_id t) (payload stamp t.event)
