-- The written form of a lawful transmission is a frame of it. Assumes nothing.
use Rattle.std.proofs.Common.{◌≡◌, ℕ, ◌^◌, ◌<◌, ◌≤◌, Bool, true, false, List, length, IfSome, Some, None, codes, Option, sym, refl, ap, ◌∙◌, subst, arith, MatchOption}
use Rattle.calendar.proofs.Denoted.{writes_back}
use Rattle.calendar.specs.Calendar.{Denotes}
use Rattle.event.specs.Lawful.{LawfulTransmission, largest_register}
use Rattle.event.specs.declared.events.Event.{Event}
use Rattle.event.specs.declared.events.EventType.{EventType}
use Rattle.event.specs.declared.events.EventType.TheVariants.{Updated}
use Rattle.event.specs.declared.events.Transmission.{Transmission}
use Rattle.frame_reader.specs.Frame.{Frame, Named, NamedMeter, NamedPayload, Sampled, Tells, flag, longest}
use Rattle.frame_reader.specs.Members.{element_under}
use Rattle.frame.specs.Members.{under}
use Rattle.frame_writer.proofs.Depths.{compact_depth, height, members_height}
use Rattle.frame_writer.proofs.Texts.{decimal_number, id_chars, message_id_chars, reason_chars, stamp_chars, two_number, type_chars, word_chars}
use Rattle.frame_writer.proofs.Values.{Sound, SoundMembers, text_is}
use Rattle.frame_writer.specs.Tree.{WrittenForm, bytes_of, message_id, meter, meter_value, payload, payload_with, sample, transaction_info, tree_of}
use Rattle.frame_reader.proofs.Same.{reads_as}
use Rattle.frame_writer.specs.Writing.{OneForm, ReadBack}
use Rattle.json_text.specs.Beginnings.{Deep}
use Rattle.json_text.specs.Grammar.{Chars}

-- the flag and the register, one case after the other
flag_sound : (b : Bool) → Sound (flag b)
flag_sound true = tt
flag_sound false = tt

flag_height : (b : Bool) → height (flag b) ≡ 0
flag_height true = refl
flag_height false = refl

-- a register that a lawful event has
abbrev Small : Option ℕ → Type 0
Small r = IfSome r (λ wh. wh < 2 ^ 64)

small : (r : Option ℕ) (k : EventType) → MatchOption r (k ≡ Updated) (λ wh. wh ≤ largest_register) → Small r
small None k h = tt
small (Some wh) k h = omega arith

module _ (stamp : List ℕ) where
  meter_sound : Chars stamp → (r : Option ℕ) → Small r → SoundMembers (meter_value stamp r)
  meter_sound stamp-is None h = tt
  meter_sound stamp-is (Some wh) h =
      (word_chars (codes "meterValue") refl, (((word_chars (codes "timestamp") refl, (stamp-is, (word_chars (codes "sampledValue") refl, (((word_chars (codes "value") refl, (decimal_number wh h, (word_chars (codes "measurand") refl, (word_chars (codes "Energy.Active.Import.Register") refl, tt)))), tt), tt)))), tt), tt))

  meter_height : (r : Option ℕ) → members_height (meter_value stamp r) ≤ 4
  meter_height None = omega arith
  meter_height (Some wh) = omega arith

  tree_sound : (t : Transmission) → Chars stamp → t.event.number < 2 ^ 64 → Small t.event.register → Sound (tree_of stamp t)
  tree_sound t stamp-is n r =
      let e = t.event in (
        two_number,
        (
          message_id_chars e.station e.session e.number t.attempt,
          (
            word_chars (codes "TransactionEvent") refl,
            (
              (
                word_chars (codes "eventType") refl,
                (
                  type_chars e.kind,
                  (
                    word_chars (codes "timestamp") refl,
                    (
                      stamp-is,
                      (
                        word_chars (codes "triggerReason") refl,
                        (
                          reason_chars e.reason,
                          (
                            word_chars (codes "seqNo") refl,
                            (
                              decimal_number e.number n,
                              (
                                word_chars (codes "offline") refl,
                                (
                                  flag_sound e.offline,
                                  (
                                    word_chars (codes "transactionInfo") refl,
                                    (
                                      (word_chars (codes "transactionId") refl, (id_chars e.station e.session, tt)),
                                      meter_sound stamp-is e.register r,
                                    ),
                                  ),
                                ),
                              ),
                            ),
                          ),
                        ),
                      ),
                    ),
                  ),
                ),
              ),
              tt,
            ),
          ),
        ),
      )

  tree_height : (t : Transmission) → height (tree_of stamp t) ≤ 8
  tree_height t = omega (arith, flag_height t.event.offline, meter_height t.event.register)

  -- every read name stands as often as it may
  names_here : (e : Event) (r : Option ℕ) → NamedPayload (payload_with stamp e (meter_value stamp r))
  names_here e None = record { event_type = refl; timestamp = refl; trigger_reason = refl; seq_no = refl; offline = omega arith; transaction_info = refl; meter_value = omega arith }
  names_here e (Some wh) = record { event_type = refl; timestamp = refl; trigger_reason = refl; seq_no = refl; offline = omega arith; transaction_info = refl; meter_value = omega arith }

  names_in_meter : (e : Event) (r : Option ℕ) → IfSome (element_under (codes "meterValue") (payload_with stamp e (meter_value stamp r))) NamedMeter
  names_in_meter e None = tt
  names_in_meter e (Some wh) = record { sampled_value = refl; sample = record { value = refl; measurand = omega arith } }

  named : (e : Event) → Named (payload stamp e)
  named e = record { here = names_here e e.register; info = refl; meter = names_in_meter e e.register }

  register_told : (e : Event) (r : Option ℕ) → MatchOption r (under (codes "meterValue") (payload_with stamp e (meter_value stamp r)) ≡ None) (Sampled (payload_with stamp e (meter_value stamp r)))
  register_told e None = refl
  register_told e (Some wh) = record { meter = meter stamp wh; sample = sample wh; meter_is = refl; sample_is = refl; value = refl; measurand = refl }

  told : (e : Event) → Denotes stamp e.time → Tells (payload stamp e) e
  told e d =
      record {
        kind = refl;
        time = record { written = stamp; is = refl; denotes = d };
        reason = refl;
        number = refl;
        offline = refl;
        transaction = record { info = transaction_info e; is = refl; id = refl };
        register = register_told e e.register;
      }

  not_deep : (t : Transmission) → Sound (tree_of stamp t) → Deep (bytes_of stamp t) → ⊥
  not_deep t s deep = omega (arith, deep.1.deep, compact_depth (tree_of stamp t) s deep.0, tree_height t)

  frame_bytes : (t : Transmission) → LawfulTransmission t → Denotes stamp t.event.time → length (bytes_of stamp t) ≤ longest → Frame (bytes_of stamp t) t
  frame_bytes t lawful d short =
      let s = tree_sound t (stamp_chars stamp t.event.time d) (omega (arith, lawful.event.ranges.number_to)) (small t.event.register t.event.kind lawful.event.register) in
      record {
        id = message_id t;
        payload = payload stamp t.event;
        called = record { tree = tree_of stamp t; parsed = record { short = short; shallow = not_deep t s; is = text_is (tree_of stamp t) s }; call = record { is = refl } };
        named = named t.event;
        says = record { message = refl; tells = told t.event d; lawful = lawful };
      }

-- a transmission has one written form at most
pub one_form : (t : Transmission) (bytes : List ℕ) → WrittenForm t bytes → OneForm t bytes
one_form t bytes w =
    record {
      is = w;
      only = λ other v. v.is ∙ ap (λ l. bytes_of l t) (writes_back w.stamp t.event.time w.denotes v.stamp v.denotes) ∙ sym w.is;
    }

pub form_frame : (t : Transmission) (bytes : List ℕ) → LawfulTransmission t → WrittenForm t bytes → length bytes ≤ longest → Frame bytes t
form_frame t bytes lawful w short =
    subst (λ l. Frame l t) (sym w.is) (frame_bytes w.stamp t lawful w.denotes (subst (λ l. length l ≤ longest) w.is short))

pub read_back : (t : Transmission) (bytes : List ℕ) → Frame bytes t → ReadBack t bytes
read_back t bytes f r answer = reads_as bytes r answer t f
