-- The frame of a transmission: its tree, and its bytes. Assumes nothing.
use Rattle.std.specs.Prelude.{◌≡◌, ℕ, List, Some, None, codes, decimal, Option}
use Rattle.calendar.specs.Calendar.{Denotes}
use Rattle.event.specs.declared.events.Event.{Event}
use Rattle.event.specs.declared.events.Transmission.{Transmission}
use Rattle.frame.specs.Call.{array_of_four}
use Rattle.frame_reader.specs.Frame.{flag, measurand_text}
use Rattle.event.specs.Names.{reason_text, type_text}
use Rattle.frame_writer.specs.Compact.{compact}
use Rattle.ids.specs.Ids.{id_text, message_id_text}
use Rattle.json_text.specs.Grammar.{Json, Membs}
use Rattle.json_text.specs.Grammar.Elems.{no_elem, elem}
use Rattle.json_text.specs.Grammar.Json.{jarray, jnumber, jobject, jstring}
use Rattle.json_text.specs.Grammar.Membs.{no_memb, memb}

-- an array of one object
abbrev pub one_object : Membs → Json
one_object ms = jarray (elem (jobject ms) no_elem)

-- the register in Wh
abbrev pub sample : (wh : ℕ) → Membs
sample wh = memb (codes "value") (jnumber (decimal wh)) (memb (codes "measurand") (jstring measurand_text) no_memb)

-- with the text of the event's time
abbrev pub meter : (stamp : List ℕ) (wh : ℕ) → Membs
meter stamp wh = memb (codes "timestamp") (jstring stamp) (memb (codes "sampledValue") (one_object (sample wh)) no_memb)

-- an absent register leaves meterValue out
abbrev pub meter_value : (stamp : List ℕ) → Option ℕ → Membs
meter_value stamp None = no_memb
meter_value stamp (Some wh) = memb (codes "meterValue") (one_object (meter stamp wh)) no_memb

abbrev pub transaction_info : Event → Membs
transaction_info e = memb (codes "transactionId") (jstring (id_text e.station e.session)) no_memb

-- the members of every payload, and those behind them
abbrev pub payload_with : (stamp : List ℕ) → Event → Membs → Membs
payload_with stamp e others =
    memb (codes "eventType") (jstring (type_text e.kind))
    (memb (codes "timestamp") (jstring stamp)
    (memb (codes "triggerReason") (jstring (reason_text e.reason))
    (memb (codes "seqNo") (jnumber (decimal e.number))
    (memb (codes "offline") (flag e.offline)
    (memb (codes "transactionInfo") (jobject (transaction_info e)) others)))))

abbrev pub payload : (stamp : List ℕ) → Event → Membs
payload stamp e = payload_with stamp e (meter_value stamp e.register)

abbrev pub message_id : Transmission → List ℕ
message_id t = message_id_text t.event.station t.event.session t.event.number t.attempt

abbrev pub tree_of : (stamp : List ℕ) → Transmission → Json
tree_of stamp t =
    array_of_four (jnumber (codes "2")) (jstring (message_id t)) (jstring (codes "TransactionEvent")) (jobject (payload stamp t.event))

abbrev pub bytes_of : (stamp : List ℕ) → Transmission → List ℕ
bytes_of stamp t = compact (tree_of stamp t)

-- the bytes are the transmission's frame as it is written, with the timestamp of its time
pub record WrittenForm (t : Transmission) (bytes : List ℕ) : Type 0 where
  pub stamp : List ℕ
  pub denotes : Denotes stamp t.event.time
  pub is : bytes ≡ bytes_of stamp t
