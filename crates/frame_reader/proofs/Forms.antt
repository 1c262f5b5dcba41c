-- Words, numbers and literals by their bytes. Assumes nothing.
use Rattle.std.proofs.Common.{◌≡◌, ℕ, ◌-◌, ◌^◌, ◌<◌, ◌≤◌, min, true, List, [], ◌∷◌, ◌++◌, length, get_or, take, Ok, Err, codes, decimal, Result, sym, refl, ap, ◌∙◌, subst, arith, length-append, MatchOption, MatchResult}
use Rattle.calendar.specs.Calendar.{Denotes, NoSecond}
use Rattle.decimal.proofs.Plain.{decimal_plain, plain_decimal, value_plain}
use Rattle.decimal.proofs.Widths.{length_fixed}
use Rattle.decimal.specs.Decimal.{PlainText, fixed, value}
use Rattle.event.specs.Lawful.{largest_register}
use Rattle.frame_reader.specs.Values.{NoNumber, NoTime, TimeIn}
use Rattle.frame.proofs.Openings.{opening}
use Rattle.frame.proofs.Scalars.{first_opens, number_bytes_are}
use Rattle.ids.specs.Ids.{id_text, message_id_text}
use Rattle.json_text.specs.Grammar.{Json, Value}
use Rattle.json_text.specs.Grammar.Json.{jnull, jtrue, jfalse, jnumber, jstring, jarray, jobject}
use Rattle.refusal.specs.declared.Refusal.{Refusal}
use Rattle.refusal.specs.declared.Refusal.TheVariants.{BadValue}
use Rattle.std.proofs.lemmas.List.{take_at}
use Rattle.std.proofs.lemmas.Bool.{eqb-true, false≢true}
use Rattle.std.specs.Result.{result_ok}

-- only true begins with a t, only false with an f
true_by : (t : Json) → opening t 116 ≡ true → t ≡ jtrue
true_by jnull h = absurd (false≢true h)
true_by jtrue h = refl
true_by jfalse h = absurd (false≢true h)
true_by (jnumber n) h = absurd (false≢true h)
true_by (jstring s) h = absurd (false≢true h)
true_by (jarray es) h = absurd (false≢true h)
true_by (jobject ms) h = absurd (false≢true h)

false_by : (t : Json) → opening t 102 ≡ true → t ≡ jfalse
false_by jnull h = absurd (false≢true h)
false_by jtrue h = absurd (false≢true h)
false_by jfalse h = refl
false_by (jnumber n) h = absurd (false≢true h)
false_by (jstring s) h = absurd (false≢true h)
false_by (jarray es) h = absurd (false≢true h)
false_by (jobject ms) h = absurd (false≢true h)

pub true_by_bytes : (t : Json) (v : List ℕ) → Value t v → v ≡ codes "true" → t ≡ jtrue
true_by_bytes t v is e = true_by t (subst (λ l. opening t (get_or l 0 0) ≡ true) e (first_opens t v is))

pub false_by_bytes : (t : Json) (v : List ℕ) → Value t v → v ≡ codes "false" → t ≡ jfalse
false_by_bytes t v is e = false_by t (subst (λ l. opening t (get_or l 0 0) ≡ true) e (first_opens t v is))

-- only a number begins with a digit
number_by_digit : (t : Json) (b : ℕ) → 48 ≤ b → b ≤ 57 → opening t b ≡ true → (n : List ℕ) × (t ≡ jnumber n)
number_by_digit jnull b low high h = absurd (omega (arith, eqb-true b 110 h))
number_by_digit jtrue b low high h = absurd (omega (arith, eqb-true b 116 h))
number_by_digit jfalse b low high h = absurd (omega (arith, eqb-true b 102 h))
number_by_digit (jnumber n) b low high h = (n, refl)
number_by_digit (jstring s) b low high h = absurd (omega (arith, eqb-true b 34 h))
number_by_digit (jarray es) b low high h = absurd (omega (arith, eqb-true b 91 h))
number_by_digit (jobject ms) b low high h = absurd (omega (arith, eqb-true b 123 h))

pub plain_number : (t : Json) (v : List ℕ) (n : ℕ) → Value t v → PlainText v → n ≡ min (value v) (2 ^ 64 - 1) → n ≤ largest_register → t ≡ jnumber (decimal n)
plain_number t v n is plain least small =
    let digit = plain.digits 0 plain.some in
    let by = number_by_digit t (get_or v 0 0) digit.0 digit.1 (first_opens t v is) in
    let same : n ≡ value v = omega (arith, least) in
    let bytes : v ≡ decimal n = sym (decimal_plain v plain (omega (arith, same))) ∙ ap decimal (sym same) in
    by.1 ∙ ap jnumber (sym (number_bytes_are t by.0 v is by.1) ∙ bytes)

pub not_plain : (t : Json) (v : List ℕ) → Value t v → (PlainText v → ⊥) → NoNumber t
not_plain t v is none n small e =
    none (subst PlainText (sym (number_bytes_are t (decimal n) v is e)) (plain_decimal n (omega arith)))

pub too_large : (t : Json) (v : List ℕ) (m : ℕ) → Value t v → m ≡ min (value v) (2 ^ 64 - 1) → largest_register < m → NoNumber t
too_large t v m is least large n small e =
    omega (arith, ap value (number_bytes_are t (decimal n) v is e) ∙ value_plain n (omega arith), least)

abbrev string_in : Json → List ℕ
string_in jnull = []
string_in jtrue = []
string_in jfalse = []
string_in (jnumber n) = []
string_in (jstring s) = s
string_in (jarray es) = []
string_in (jobject ms) = []

pub same_string : {s t : List ℕ} → jstring s ≡ jstring t → s ≡ t
same_string e = ap string_in e

-- a message id begins with the transaction id
id_long : (station session : ℕ) → length (id_text station session) ≡ 14
id_long station session =
    omega (arith, length-append (fixed 5 station) (45 ∷ fixed 8 session), length_fixed 5 station, length_fixed 8 session)

pub front_text : (station session number attempt : ℕ) → take 14 (message_id_text station session number attempt) ≡ id_text station session
front_text station session number attempt =
    take_at (id_text station session) (45 ∷ (fixed 4 number ++ 45 ∷ fixed 2 attempt)) 14 (id_long station session)

pub front_long : (station session number attempt : ℕ) → 14 ≤ length (message_id_text station session number attempt)
front_long station session number attempt =
    omega (arith, length-append (id_text station session) (45 ∷ (fixed 4 number ++ 45 ∷ fixed 2 attempt)), id_long station session)

-- a string that is a timestamp, or none
pub time_cases : (tree : Json) (text : List ℕ) (r : Result ℕ Refusal) → tree ≡ jstring text → MatchResult r (Denotes text) (λ e. (e ≡ BadValue) × NoSecond text) → MatchOption (result_ok r) (NoTime tree) (TimeIn tree)
time_cases tree text (Ok time) is d = record { written = text; is = is; denotes = d }
time_cases tree text (Err e) is d = λ time t.
    d.1 time (subst (λ s. Denotes s time) (same_string (sym t.is ∙ is)) t.denotes)
