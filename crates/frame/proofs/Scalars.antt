-- Strings, numbers and objects by their bytes. Assumes nothing.
use Rattle.std.proofs.Common.{◌≡◌, ℕ, ◌-◌, true, List, [], ◌∷◌, length, get_or, take, drop, sym, refl, ap, ◌∙◌, subst, append-nil, arith, length-append}
use Rattle.frame.specs.Walks.{quoted}
use Rattle.frame.proofs.Looks.{unquoted}
use Rattle.frame.proofs.Openings.{object_by, opening, opens, string_by}
use Rattle.json_text.specs.Grammar.{Json, Membs, Value}
use Rattle.json_text.specs.Grammar.Json.{jnumber, jstring, jobject}
use Rattle.json_text.specs.Grammar.Value.{is_number, is_string}
use Rattle.std.proofs.lemmas.List.{take_at}

-- a value's first byte
pub first_opens : (t : Json) (v : List ℕ) → Value t v → opening t (get_or v 0 0) ≡ true
first_opens t v v-is = subst (λ l. opening t (get_or l 0 0) ≡ true) (append-nil v) (opens [] v-is)

string_of : (s v : List ℕ) → Value (jstring s) v → v ≡ quoted s
string_of s v (is_string cs) = refl

number_of : (n v : List ℕ) → Value (jnumber n) v → v ≡ n
number_of n v (is_number m) = refl

pub string_bytes_are : (t : Json) (s v : List ℕ) → Value t v → t ≡ jstring s → v ≡ quoted s
string_bytes_are t s v v-is e = string_of s v (subst (λ u. Value u v) e v-is)

pub string_by_bytes : (t : Json) (s v : List ℕ) → Value t v → v ≡ quoted s → t ≡ jstring s
string_by_bytes t s v v-is e =
    let by = string_by t (subst (λ b. opening t b ≡ true) (ap (λ l. get_or l 0 0) e) (first_opens t v v-is)) in
    by.1 ∙ ap jstring (unquoted by.0 s (sym (string_bytes_are t by.0 v v-is by.1) ∙ e))

pub number_bytes_are : (t : Json) (n v : List ℕ) → Value t v → t ≡ jnumber n → v ≡ n
number_bytes_are t n v v-is e = number_of n v (subst (λ u. Value u v) e v-is)

pub object_by_first : (t : Json) (v : List ℕ) → Value t v → get_or v 0 0 ≡ 123 → (ms : Membs) × (t ≡ jobject ms)
object_by_first t v v-is e = object_by t (subst (λ b. opening t b ≡ true) e (first_opens t v v-is))

-- between the quotes
pub unquoted_bytes : (v s : List ℕ) → v ≡ quoted s → take (length v - 1 - 1) (drop 1 v) ≡ s
unquoted_bytes v s e =
    ap (λ l. take (length l - 1 - 1) (drop 1 l)) e
    ∙ take_at s (34 ∷ []) (length (quoted s) - 1 - 1) (omega (arith, length-append s (34 ∷ [])))

pub string_first : (t : Json) (v : List ℕ) → Value t v → get_or v 0 0 ≡ 34 → (s : List ℕ) × (t ≡ jstring s)
string_first t v v-is e = string_by t (subst (λ b. opening t b ≡ true) e (first_opens t v v-is))
