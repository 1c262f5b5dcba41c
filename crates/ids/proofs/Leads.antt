-- A number and a hyphen at the front of bytes. Assumes nothing.
use Rattle.std.proofs.Common.{◌≡◌, ℕ, ◌<◌, ◌≤◌, List, ◌∷◌, ◌++◌, length, take, drop, sym, ap, ◌∙◌, subst, arith, length-append}
use Rattle.std.proofs.lemmas.List.{take_at, drop_at, append_assoc}
use Rattle.decimal.proofs.Widths.{length_fixed, same_from_fixed, text_of_width, value_from_text}
use Rattle.decimal.specs.Decimal.{FixedText, fixed}
use Rattle.ids.specs.Ids.{Digits, Leads, MessageWritten, Written}
use Rattle.ids.specs.declared.message.MessageId.{MessageId}

-- the parts that w digits, a hyphen and what follows are of the bytes
pub record Placed (w : ℕ) (text : List ℕ) (n : ℕ) (rest : List ℕ) : Type 0 where
  pub long : w < length text
  pub digits : FixedText (take w text) n
  pub hyphen : drop w text ≡ 45 ∷ rest

pub placed : (w : ℕ) (text : List ℕ) (n : ℕ) (rest : List ℕ) → (0 < w) × (w ≤ 18) → Leads w text n rest → Placed w text n rest
placed w text n rest wide l =
    let long = length_fixed w n in
    record {
      long = omega (arith, ap length l.bytes, length-append (fixed w n) (45 ∷ rest));
      digits = subst (λ t. FixedText t n) (sym (ap (take w) l.bytes ∙ take_at (fixed w n) (45 ∷ rest) w long)) (text_of_width w n wide.0 wide.1 l.below);
      hyphen = ap (drop w) l.bytes ∙ drop_at (fixed w n) (45 ∷ rest) w long;
    }

-- digits alone
pub all_digits : (w : ℕ) (text : List ℕ) (n : ℕ) → (0 < w) × (w ≤ 18) → Digits w text n → (length text ≡ w) × FixedText text n
all_digits w text n wide d = (ap length d.bytes ∙ length_fixed w n, subst (λ t. FixedText t n) (sym d.bytes) (text_of_width w n wide.0 wide.1 d.below))

-- the number and the rest are the only ones
pub same_lead : (w : ℕ) (text : List ℕ) (m n : ℕ) (r s : List ℕ) → Leads w text m r → Leads w text n s → r ≡ s
same_lead w text m n r s a b =
    ap (drop 1) (sym (drop_at (fixed w m) (45 ∷ r) w (length_fixed w m)) ∙ ap (drop w) (sym a.bytes ∙ b.bytes) ∙ drop_at (fixed w n) (45 ∷ s) w (length_fixed w n))

-- the parts of a message id, one after the other
abbrev after_session : MessageId → List ℕ
after_session id = fixed 4 id.number ++ 45 ∷ fixed 2 id.attempt

pub station_leads : (text : List ℕ) (id : MessageId) → MessageWritten text id → Leads 5 text id.station (fixed 8 id.session ++ 45 ∷ after_session id)
station_leads text id m = record { below = m.station_below; bytes = m.bytes ∙ append_assoc (fixed 5 id.station) (45 ∷ fixed 8 id.session) (45 ∷ after_session id) }

pub session_leads : (text : List ℕ) (id : MessageId) → MessageWritten text id → (a : ℕ) (r : List ℕ) → Leads 5 text a r → Leads 8 r id.session (after_session id)
session_leads text id m a r five =
    record { below = m.session_below; bytes = same_lead 5 text a id.station r _ five (station_leads text id m) }

pub number_leads : (text : List ℕ) (id : MessageId) → MessageWritten text id → (a b : ℕ) (r s : List ℕ) → Leads 5 text a r → Leads 8 r b s → Leads 4 s id.number (fixed 2 id.attempt)
number_leads text id m a b r s five eight =
    record { below = m.number_below; bytes = same_lead 8 r b id.session s _ eight (session_leads text id m a r five) }

pub attempt_last : (text : List ℕ) (id : MessageId) → MessageWritten text id → (a b n : ℕ) (r s u : List ℕ) → Leads 5 text a r → Leads 8 r b s → Leads 4 s n u → Digits 2 u id.attempt
attempt_last text id m a b n r s u five eight four =
    record { below = m.attempt_below; bytes = same_lead 4 s n id.number u _ four (number_leads text id m a b r s five eight) }

-- the parts of a transaction id
pub id_leads : (text : List ℕ) (station session : ℕ) → Written text station session → Leads 5 text station (fixed 8 session)
id_leads text s n w = record { below = w.station_below; bytes = w.bytes }

pub session_last : (text : List ℕ) (station session : ℕ) → Written text station session → (a : ℕ) (r : List ℕ) → Leads 5 text a r → Digits 8 r session
session_last text s n w a r five = record { below = w.session_below; bytes = same_lead 5 text a s r _ five (id_leads text s n w) }

pub same_lead_number : (w : ℕ) (text : List ℕ) (m n : ℕ) (r s : List ℕ) → Leads w text m r → Leads w text n s → m ≡ n
same_lead_number w text m n r s a b =
    same_from_fixed w m n a.below b.below
    (sym (take_at (fixed w m) (45 ∷ r) w (length_fixed w m)) ∙ ap (take w) (sym a.bytes ∙ b.bytes) ∙ take_at (fixed w n) (45 ∷ s) w (length_fixed w n))

-- a message id has one station, session, number and attempt
pub record SameNumbers (a b : MessageId) : Type 0 where
  pub station : a.station ≡ b.station
  pub session : a.session ≡ b.session
  pub number : a.number ≡ b.number
  pub attempt : a.attempt ≡ b.attempt

pub same_message : (text : List ℕ) (a b : MessageId) → MessageWritten text a → MessageWritten text b → SameNumbers a b
same_message text a b m n =
    let five = station_leads text a m in
    let eight = session_leads text a m _ _ five in
    let four = number_leads text a m _ _ _ _ five eight in
    let last = (all_digits 2 _ b.attempt (omega arith, omega arith) (attempt_last text b n _ _ _ _ _ _ five eight four)).1 in
    record {
      station = same_lead_number 5 text _ _ _ _ five (station_leads text b n);
      session = same_lead_number 8 _ _ _ _ _ eight (session_leads text b n _ _ five);
      number = same_lead_number 4 _ _ _ _ _ four (number_leads text b n _ _ _ _ five eight);
      attempt = sym (value_from_text _ _ (text_of_width 2 a.attempt (omega arith) (omega arith) m.attempt_below)) ∙ value_from_text _ _ last;
    }
