-- The texts in a frame are strings and numbers of JSON. Assumes nothing.
use Rattle.std.proofs.Common.{◌≡◌, ℕ, zero, suc, ◌+◌, ◌/◌, ◌%◌, ◌^◌, ◌<◌, ◌≤◌, Bool, true, ◌&&◌, List, [], ◌∷◌, ◌++◌, length, codes, decimal, sym, refl, subst, ⊎_elim, append-nil, suc-le-suc, arith}
use Rattle.calendar.specs.Calendar.{Denotes, text_of}
use Rattle.calendar.specs.declared.Civil.{Civil}
use Rattle.decimal.proofs.Plain.{plain_decimal}
use Rattle.decimal.specs.Decimal.{AllDigits, PlainText, fixed}
use Rattle.event.specs.declared.events.EventType.{EventType}
use Rattle.event.specs.declared.events.EventType.TheVariants.{Started, Updated, Ended}
use Rattle.event.specs.declared.events.TriggerReason.{TriggerReason}
use Rattle.event.specs.declared.events.TriggerReason.TheVariants.{CablePluggedIn, MeterValuePeriodic, EVDeparted}
use Rattle.event.specs.Names.{reason_text, type_text}
use Rattle.ids.specs.Ids.{id_text, message_id_text}
use Rattle.json_text.specs.Grammar.{Chars, Each, Number, Whole, digit, nonzero, plain}
use Rattle.json_text.specs.Grammar.Chars.{no_char, char, escape, unicode}
use Rattle.json_text.specs.Grammar.Each.{no_byte, byte}
use Rattle.json_text.specs.Grammar.Exponent.{no_exponent}
use Rattle.json_text.specs.Grammar.Fraction.{no_fraction}
use Rattle.json_text.specs.Grammar.Minus.{no_minus}
use Rattle.json_text.specs.Grammar.Number.{number}
use Rattle.json_text.specs.Grammar.Whole.{zero_alone, from_one}
use Rattle.std.proofs.lemmas.Bool.{and_parts, cases_lt}
use Rattle.std.proofs.lemmas.Bool.Decides.{nat_tests}

-- bytes that stand for themselves
abbrev plain_all : List ℕ → Bool
plain_all [] = true
plain_all (b ∷ bs) = plain b && plain_all bs

pub word_chars : (bs : List ℕ) → plain_all bs ≡ true → Chars bs
word_chars [] t = no_char
word_chars (b ∷ bs) t = char (and_parts (plain b) (plain_all bs) t).0 (word_chars bs (and_parts (plain b) (plain_all bs) t).1)

chars_append : {xs ys : List ℕ} → Chars xs → Chars ys → Chars (xs ++ ys)
chars_append no_char more = more
chars_append (char t cs) more = char t (chars_append cs more)
chars_append (escape t cs) more = escape t (chars_append cs more)
chars_append (unicode th ti tj tk cs) more = unicode th ti tj tk (chars_append cs more)

fixed_chars : (w n : ℕ) → Chars (fixed w n)
unfolding fixed
fixed_chars zero n = no_char
fixed_chars (suc w) n =
    let d = n / 10 ^ w % 10 in
    let low : d < 10 = omega arith in
    char (let h : plain (48 + d) ≡ true = grind (arith, nat_tests) in h) (fixed_chars w n)

pub id_chars : (station session : ℕ) → Chars (id_text station session)
id_chars station session = chars_append (fixed_chars 5 station) (char refl (fixed_chars 8 session))

pub message_id_chars : (station session n attempt : ℕ) → Chars (message_id_text station session n attempt)
message_id_chars station session n attempt =
    chars_append (id_chars station session) (char refl (chars_append (fixed_chars 4 n) (char refl (fixed_chars 2 attempt))))

civil_chars : (c : Civil) → Chars (text_of c)
unfolding text_of
civil_chars c =
    chars_append (fixed_chars 4 c.year)
    (char refl (chars_append (fixed_chars 2 c.month)
    (char refl (chars_append (fixed_chars 2 c.day)
    (char refl (chars_append (fixed_chars 2 c.hour)
    (char refl (chars_append (fixed_chars 2 c.minute) (char refl (chars_append (fixed_chars 2 c.second) (char refl no_char)))))))))))

pub stamp_chars : (stamp : List ℕ) (s : ℕ) → Denotes stamp s → Chars stamp
stamp_chars stamp s d = subst Chars (sym d.written) (civil_chars d.civil)

pub type_chars : (k : EventType) → Chars (type_text k)
type_chars Started = word_chars (type_text Started) refl
type_chars Updated = word_chars (type_text Updated) refl
type_chars Ended = word_chars (type_text Ended) refl

pub reason_chars : (r : TriggerReason) → Chars (reason_text r)
reason_chars CablePluggedIn = word_chars (reason_text CablePluggedIn) refl
reason_chars MeterValuePeriodic = word_chars (reason_text MeterValuePeriodic) refl
reason_chars EVDeparted = word_chars (reason_text EVDeparted) refl

each_digit : (bs : List ℕ) → AllDigits bs → Each digit bs
each_digit [] h = no_byte
each_digit (b ∷ bs) h =
    let d = h 0 (omega arith) in
    byte (let t : digit b ≡ true = grind (arith, nat_tests) in t) (each_digit bs (λ i l. h (suc i) (suc-le-suc l)))

whole_plain : (bs : List ℕ) → PlainText bs → Whole bs
whole_plain [] t = absurd (omega (arith, t.some))
whole_plain (b ∷ bs) t =
    let d = t.digits 0 (omega arith) in
    let more = each_digit bs (λ i l. t.digits (suc i) (suc-le-suc l)) in
    ⊎_elim
    (λ over. from_one (let e : nonzero b ≡ true = grind (arith, nat_tests) in e) more)
    (λ not-over. alone b bs (let e : b ≡ 48 = omega arith in e) (t.lead (omega arith)))
    (cases_lt 48 b)
  where
    alone : (b : ℕ) (bs : List ℕ) → b ≡ 48 → length (b ∷ bs) ≡ 1 → Whole (b ∷ bs)
    alone b [] e long = subst (λ x. Whole (x ∷ [])) (sym e) zero_alone
    alone b (c ∷ cs) e long = absurd (omega arith)

pub decimal_number : (n : ℕ) → n < 2 ^ 64 → Number (decimal n)
decimal_number n h = subst Number (append-nil (decimal n)) (number no_minus (whole_plain (decimal n) (plain_decimal n h)) no_fraction no_exponent)

pub two_number : Number (codes "2")
two_number = number no_minus (from_one refl no_byte) no_fraction no_exponent

-- names are short
pub type_short : (k : EventType) → length (type_text k) ≤ 7
type_short Started = omega arith
type_short Updated = omega arith
type_short Ended = omega arith

pub reason_short : (r : TriggerReason) → length (reason_text r) ≤ 18
reason_short CablePluggedIn = omega arith
reason_short MeterValuePeriodic = omega arith
reason_short EVDeparted = omega arith
