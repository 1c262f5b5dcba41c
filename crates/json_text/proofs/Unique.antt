-- A text has at most one tree: a reading that goes by the next byte alone gives the tree of every text. Assumes nothing.
use Rattle.std.proofs.Common.{◌≡◌, ℕ, zero, suc, ◌+◌, ◌*◌, ◌<◌, Bool, true, false, cond, ◌||◌, eqb, List, [], ◌∷◌, ◌++◌, length, sym, refl, ap, ◌∙◌, ap₂, append_assoc, arith, length-append}
use Rattle.std.proofs.lemmas.Bool.{cond-true, cond-false, true≢false}
use Rattle.std.proofs.lemmas.Bool.Decides.{nat_tests}
use Rattle.json_text.specs.Grammar.{Chars, Digits, Each, Elements, Elems, Exponent, Fraction, Json, Members, Membs, Minus, Number, Sign, Text, Value, White, Whole, digit, hex, plain, power, sign, white}
use Rattle.json_text.specs.Grammar.Chars.{no_char, char, escape, unicode}
use Rattle.json_text.specs.Grammar.Digits.{digits}
use Rattle.json_text.specs.Grammar.Each.{no_byte, byte}
use Rattle.json_text.specs.Grammar.Elements.{last_element, next_element}
use Rattle.json_text.specs.Grammar.Elems.{no_elem, elem}
use Rattle.json_text.specs.Grammar.Exponent.{no_exponent, exponent}
use Rattle.json_text.specs.Grammar.Fraction.{no_fraction, fraction}
use Rattle.json_text.specs.Grammar.Json.{jnull, jtrue, jfalse, jnumber, jstring, jarray, jobject}
use Rattle.json_text.specs.Grammar.Members.{last_member, next_member}
use Rattle.json_text.specs.Grammar.Membs.{no_memb, memb}
use Rattle.json_text.specs.Grammar.Minus.{no_minus, minus}
use Rattle.json_text.specs.Grammar.Number.{number}
use Rattle.json_text.specs.Grammar.Sign.{no_sign, signed}
use Rattle.json_text.specs.Grammar.Text.{text}
use Rattle.json_text.specs.Grammar.Value.{is_null, is_true, is_false, is_number, is_string, empty_array, is_array, empty_object, is_object}
use Rattle.json_text.specs.Grammar.Whole.{zero_alone, from_one}
use Rattle.json_text.proofs.Complete.{split_element, split_member}
use Rattle.json_text.specs.Parts.{Follows, follow, skip}
use Rattle.json_text.specs.Parts.Follows.{ends, goes_on}

pub skip_white : {w : List ℕ} (s : List ℕ) → White w → skip (w ++ s) ≡ skip s
skip_white s no_byte = refl
skip_white s (byte t more) = cond-true _ _ _ t ∙ skip_white s more

-- bytes that numbers are made of
abbrev pub numeric : ℕ → Bool
numeric b = digit b || (sign b || (power b || eqb b 46))

abbrev figures : List ℕ → List ℕ
figures [] = []
figures (b ∷ s) = cond (numeric b) (b ∷ figures s) []

past_figures : List ℕ → List ℕ
past_figures [] = []
past_figures (b ∷ s) = cond (numeric b) (past_figures s) (b ∷ s)

figures_all : {n : List ℕ} (r : List ℕ) → Each numeric n → Follows r → figures (n ++ r) ≡ n
figures_all r no_byte ends = refl
figures_all (b ∷ s) no_byte (goes_on f) = cond-false _ _ _ (let h : numeric b ≡ false = grind (arith, nat_tests) in h)
figures_all r (byte {b} t more) f = cond-true _ _ _ t ∙ ap (λ x. b ∷ x) (figures_all r more f)

past_all : {n : List ℕ} (r : List ℕ) → Each numeric n → Follows r → past_figures (n ++ r) ≡ r
unfolding past_figures
past_all r no_byte ends = refl
past_all (b ∷ s) no_byte (goes_on f) = cond-false _ _ _ (let h : numeric b ≡ false = grind (arith, nat_tests) in h)
past_all r (byte {b} t more) f = cond-true _ _ _ t ∙ past_all r more f

each_append : (test : ℕ → Bool) {xs ys : List ℕ} → Each test xs → Each test ys → Each test (xs ++ ys)
each_append test no_byte e = e
each_append test (byte t more) e = byte t (each_append test more e)

each_digit : {ds : List ℕ} → Each digit ds → Each numeric ds
each_digit no_byte = no_byte
each_digit (byte {b} t more) = byte (let h : numeric b ≡ true = grind (arith, nat_tests) in h) (each_digit more)

digits_numeric : {ds : List ℕ} → Digits ds → Each numeric ds
digits_numeric (digits t more) = each_digit (byte t more)

pub number_numeric : {n : List ℕ} → Number n → Each numeric n
number_numeric (number m-is i-is f-is x-is) =
    each_append numeric (of_minus m-is) (each_append numeric (of_whole i-is) (each_append numeric (of_fraction f-is) (of_exponent x-is)))
  where
    of_minus : {m : List ℕ} → Minus m → Each numeric m
    of_minus no_minus = no_byte
    of_minus minus = byte refl no_byte

    of_whole : {i : List ℕ} → Whole i → Each numeric i
    of_whole zero_alone = byte refl no_byte
    of_whole (from_one {d} t more) = byte (let h : numeric d ≡ true = grind (arith, nat_tests) in h) (each_digit more)

    of_fraction : {f : List ℕ} → Fraction f → Each numeric f
    of_fraction no_fraction = no_byte
    of_fraction (fraction ds) = byte refl (digits_numeric ds)

    of_sign : {g : List ℕ} → Sign g → Each numeric g
    of_sign no_sign = no_byte
    of_sign (signed {b} t) = byte (let h : numeric b ≡ true = grind (arith, nat_tests) in h) no_byte

    of_exponent : {x : List ℕ} → Exponent x → Each numeric x
    of_exponent no_exponent = no_byte
    of_exponent (exponent {e} t g ds) = byte (let h : numeric e ≡ true = grind (arith, nat_tests) in h) (each_append numeric (of_sign g) (digits_numeric ds))

-- the bytes of a string up to its closing quote, and what follows it
mutual
  inner : List ℕ → List ℕ
  inner [] = []
  inner (b ∷ s) = cond (eqb b 34) [] (b ∷ cond (eqb b 92) (inner_escaped s) (inner s))

  inner_escaped : List ℕ → List ℕ
  inner_escaped [] = []
  inner_escaped (b ∷ s) = b ∷ inner s

mutual
  beyond : List ℕ → List ℕ
  beyond [] = []
  beyond (b ∷ s) = cond (eqb b 34) s (cond (eqb b 92) (beyond_escaped s) (beyond s))

  beyond_escaped : List ℕ → List ℕ
  beyond_escaped [] = []
  beyond_escaped (b ∷ s) = beyond s

plain_inner : (b : ℕ) (s : List ℕ) → eqb b 34 ≡ false → eqb b 92 ≡ false → inner (b ∷ s) ≡ b ∷ inner s
unfolding inner
plain_inner b s p q = cond-false _ _ _ p ∙ ap (λ x. b ∷ x) (cond-false _ _ _ q)

plain_beyond : (b : ℕ) (s : List ℕ) → eqb b 34 ≡ false → eqb b 92 ≡ false → beyond (b ∷ s) ≡ beyond s
unfolding beyond
plain_beyond b s p q = cond-false _ _ _ p ∙ cond-false _ _ _ q

hex_plain : (b : ℕ) → hex b ≡ true → (eqb b 34 ≡ false) × (eqb b 92 ≡ false)
hex_plain b t = (grind (arith, nat_tests), grind (arith, nat_tests))

chars_plain : (b : ℕ) → plain b ≡ true → (eqb b 34 ≡ false) × (eqb b 92 ≡ false)
chars_plain b t = (grind (arith, nat_tests), grind (arith, nat_tests))

inner_all : {cs : List ℕ} (r : List ℕ) → Chars cs → inner (cs ++ (34 ∷ r)) ≡ cs
unfolding inner inner_escaped
inner_all r no_char = refl
inner_all r (char {b} {cs} t more) = let p = chars_plain b t in plain_inner b (cs ++ (34 ∷ r)) p.0 p.1 ∙ ap (λ x. b ∷ x) (inner_all r more)
inner_all r (escape {b} t more) = ap (λ x. 92 ∷ b ∷ x) (inner_all r more)
inner_all r (unicode {h} {i} {j} {k = l} {cs} th ti tj tl more) =
    let ph = hex_plain h th in
    let pi = hex_plain i ti in
    let pj = hex_plain j tj in
    let pl = hex_plain l tl in
    let s = cs ++ (34 ∷ r) in
    ap (λ x. 92 ∷ 117 ∷ x)
    (plain_inner h (i ∷ j ∷ l ∷ s) ph.0 ph.1 ∙ ap (λ x. h ∷ x)
    (plain_inner i (j ∷ l ∷ s) pi.0 pi.1 ∙ ap (λ x. i ∷ x)
    (plain_inner j (l ∷ s) pj.0 pj.1 ∙ ap (λ x. j ∷ x)
    (plain_inner l s pl.0 pl.1 ∙ ap (λ x. l ∷ x) (inner_all r more)))))

beyond_all : {cs : List ℕ} (r : List ℕ) → Chars cs → beyond (cs ++ (34 ∷ r)) ≡ r
unfolding beyond beyond_escaped
beyond_all r no_char = refl
beyond_all r (char {b} {cs} t more) = let p = chars_plain b t in plain_beyond b (cs ++ (34 ∷ r)) p.0 p.1 ∙ beyond_all r more
beyond_all r (escape {b} t more) = beyond_all r more
beyond_all r (unicode {h} {i} {j} {k = l} {cs} th ti tj tl more) =
    let ph = hex_plain h th in
    let pi = hex_plain i ti in
    let pj = hex_plain j tj in
    let pl = hex_plain l tl in
    let s = cs ++ (34 ∷ r) in
    plain_beyond h (i ∷ j ∷ l ∷ s) ph.0 ph.1 ∙ plain_beyond i (j ∷ l ∷ s) pi.0 pi.1
    ∙ plain_beyond j (l ∷ s) pj.0 pj.1 ∙ plain_beyond l s pl.0 pl.1 ∙ beyond_all r more

-- The reading: a value and what follows it. It says nothing of bytes that begin with no value.
rest_of : List ℕ → List ℕ
rest_of [] = []
rest_of (b ∷ s) = s

head_is : ℕ → List ℕ → Bool
head_is c [] = false
head_is c (b ∷ s) = eqb b c

module _ {A B : Type 0} where
  abbrev onto : (A → B) → A × List ℕ → B × List ℕ
  onto f p = (f p.0, p.1)

-- n bounds how deep the calls go
mutual
  value_at : ℕ → List ℕ → Json × List ℕ
  value_at zero s = (jnull, s)
  value_at (suc n) [] = (jnull, [])
  value_at (suc n) (b ∷ s) =
      cond (eqb b 34) (jstring (inner s), beyond s)
      (cond (eqb b 91) (onto jarray (array_at n (skip s)))
      (cond (eqb b 123) (onto jobject (object_at n (skip s)))
      (cond (eqb b 116) (jtrue, rest_of (rest_of (rest_of s)))
      (cond (eqb b 102) (jfalse, rest_of (rest_of (rest_of (rest_of s))))
      (cond (eqb b 110) (jnull, rest_of (rest_of (rest_of s)))
      (jnumber (figures (b ∷ s)), past_figures (b ∷ s)))))))

  array_at : ℕ → List ℕ → Elems × List ℕ
  array_at zero s = (no_elem, s)
  array_at (suc n) s = cond (head_is 93 s) (no_elem, rest_of s) (elements_at n s)

  elements_at : ℕ → List ℕ → Elems × List ℕ
  elements_at zero s = (no_elem, s)
  elements_at (suc n) s =
      let p = value_at n (skip s) in
      let r = skip p.1 in
      cond (head_is 44 r) (onto (elem p.0) (elements_at n (rest_of r))) (elem p.0 no_elem, rest_of r)

  object_at : ℕ → List ℕ → Membs × List ℕ
  object_at zero s = (no_memb, s)
  object_at (suc n) s = cond (head_is 125 s) (no_memb, rest_of s) (members_at n s)

  members_at : ℕ → List ℕ → Membs × List ℕ
  members_at zero s = (no_memb, s)
  members_at (suc n) s =
      let q = rest_of (skip s) in
      let p = value_at n (skip (rest_of (skip (beyond q)))) in
      let r = skip p.1 in
      cond (head_is 44 r) (onto (memb (inner q) p.0) (members_at n (rest_of r))) (memb (inner q) p.0 no_memb, rest_of r)

skip_skip : (s : List ℕ) → skip (skip s) ≡ skip s
skip_skip [] = refl
skip_skip (b ∷ s) = go (white b) refl (skip_skip s)
  where
    go : (t : Bool) → white b ≡ t → skip (skip s) ≡ skip s → skip (cond t (skip s) (b ∷ s)) ≡ cond t (skip s) (b ∷ s)
    go true e h = h
    go false e h = cond-false _ _ _ e

-- a value begins with a byte that is no white space and no closing bracket
solid_number : {n : List ℕ} (r : List ℕ) → Number n → (skip (n ++ r) ≡ n ++ r) × (head_is 93 (n ++ r) ≡ false)
unfolding head_is
solid_number r (number no_minus zero_alone f-is x-is) = (refl, refl)
solid_number r (number {f} {x} no_minus (from_one {d} {ds} t ds-are) f-is x-is) = (cond-false _ _ _ (let h : white d ≡ false = grind (arith, nat_tests) in h), (let h : eqb d 93 ≡ false = grind (arith, nat_tests) in h))
solid_number r (number minus i-is f-is x-is) = (refl, refl)

solid : {t : Json} {v : List ℕ} (r : List ℕ) → Value t v → (skip (v ++ r) ≡ v ++ r) × (head_is 93 (v ++ r) ≡ false)
unfolding head_is
solid r is_null = (refl, refl)
solid r is_true = (refl, refl)
solid r is_false = (refl, refl)
solid r (is_number n) = solid_number r n
solid r (is_string cs) = (refl, refl)
solid r (empty_array w) = (refl, refl)
solid r (is_array es) = (refl, refl)
solid r (empty_object w) = (refl, refl)
solid r (is_object ms) = (refl, refl)

-- a value stands after white space as it is
pub stands : {t : Json} {v w : List ℕ} (r : List ℕ) → White w → Value t v → skip (w ++ (v ++ r)) ≡ v ++ r
stands {v} r w-is v-is = skip_white (v ++ r) w-is ∙ (solid r v-is).0

-- it begins with no closing bracket
pub no_bracket : {t : Json} {v : List ℕ} → Value t v → (r rest : List ℕ) → v ++ r ≡ 93 ∷ rest → ⊥
unfolding head_is
no_bracket v-is r rest e = true≢false (sym (ap (head_is 93) e) ∙ (solid r v-is).1)

-- after white space a byte that may follow a value
pub white_follows : {x : List ℕ} (b : ℕ) (r : List ℕ) → White x → follow b ≡ true → Follows (x ++ (b ∷ r))
white_follows b r no_byte f = goes_on f
white_follows b r (byte {b = c} t more) f = goes_on (let h : follow c ≡ true = grind (arith, nat_tests) in h)

elements_head : {es : Elems} {bs : List ℕ} (r : List ℕ) → Elements es bs → head_is 93 (skip (bs ++ r)) ≡ false
elements_head r (last_element {w} {v} {x} w-is v-is x-is) =
    ap (λ l. head_is 93 (skip l)) (split_element w v x r) ∙ ap (head_is 93) (skip_white (v ++ (x ++ r)) w-is ∙ (solid (x ++ r) v-is).0) ∙ (solid (x ++ r) v-is).1
elements_head r (next_element {w} {v} {x} {bs} w-is v-is x-is more) =
    let y = x ++ (44 ∷ bs) in
    ap (λ l. head_is 93 (skip l)) (split_element w v y r) ∙ ap (head_is 93) (skip_white (v ++ (y ++ r)) w-is ∙ (solid (y ++ r) v-is).0) ∙ (solid (y ++ r) v-is).1

-- a member begins with a quote
members_head : {ms : Membs} {bs : List ℕ} (r : List ℕ) → Members ms bs → head_is 125 (skip (bs ++ r)) ≡ false
unfolding head_is
members_head r (last_member {n} {u} {y} {w} {v} {x} u-is n-is y-is w-is v-is x-is) =
    ap (λ l. head_is 125 (skip l)) (split_member u n y w v x r) ∙ ap (head_is 125) (skip_white (34 ∷ (n ++ (34 ∷ (y ++ (58 ∷ (w ++ (v ++ (x ++ r)))))))) u-is)
members_head r (next_member {n} {u} {y} {w} {v} {x} {bs} u-is n-is y-is w-is v-is x-is more) =
    ap (λ l. head_is 125 (skip l)) (split_member u n y w v (x ++ (44 ∷ bs)) r) ∙ ap (head_is 125) (skip_white (34 ∷ (n ++ (34 ∷ (y ++ (58 ∷ (w ++ (v ++ ((x ++ (44 ∷ bs)) ++ r)))))))) u-is)

-- what the reading makes of the value of an element, and of a member
abbrev after_element : ℕ → Json × List ℕ → Elems × List ℕ
after_element n p = cond (head_is 44 (skip p.1)) (onto (elem p.0) (elements_at n (rest_of (skip p.1)))) (elem p.0 no_elem, rest_of (skip p.1))

abbrev after_member : ℕ → List ℕ → Json × List ℕ → Membs × List ℕ
after_member n name p = cond (head_is 44 (skip p.1)) (onto (memb name p.0) (members_at n (rest_of (skip p.1)))) (memb name p.0 no_memb, rest_of (skip p.1))

-- a number is read by its first byte
number_read : {m : List ℕ} (n : ℕ) (r : List ℕ) → Number m → Follows r → value_at (suc n) (m ++ r) ≡ (jnumber m, r)
unfolding value_at
number_read {m} n r is f = by_first is ∙ ap₂ (λ a b. (jnumber a, b)) (figures_all r (number_numeric is) f) (past_all r (number_numeric is) f)
  where
    by_first : {m : List ℕ} → Number m → value_at (suc n) (m ++ r) ≡ (jnumber (figures (m ++ r)), past_figures (m ++ r))
    by_first (number no_minus zero_alone f-is x-is) = refl
    by_first (number no_minus (from_one {d} {ds} t ds-are) f-is x-is) =
        cond-false _ _ _ (let h : eqb d 34 ≡ false = grind (arith, nat_tests) in h)
        ∙ cond-false _ _ _ (let h : eqb d 91 ≡ false = grind (arith, nat_tests) in h)
        ∙ cond-false _ _ _ (let h : eqb d 123 ≡ false = grind (arith, nat_tests) in h)
        ∙ cond-false _ _ _ (let h : eqb d 116 ≡ false = grind (arith, nat_tests) in h)
        ∙ cond-false _ _ _ (let h : eqb d 102 ≡ false = grind (arith, nat_tests) in h)
        ∙ cond-false _ _ _ (let h : eqb d 110 ≡ false = grind (arith, nat_tests) in h)
    by_first (number minus i-is f-is x-is) = refl

-- the member up to its value, as the reading goes
member_front : (n : ℕ) {m u y w : List ℕ} (s : List ℕ) → White u → Chars m → White y → White w → members_at (suc n) (u ++ (34 ∷ (m ++ (34 ∷ (y ++ (58 ∷ (w ++ s))))))) ≡ after_member n m (value_at n (skip s))
unfolding members_at rest_of
member_front n {m} {u} {y} {w} s u-is m-is y-is w-is =
    let c = y ++ (58 ∷ (w ++ s)) in
    let q = m ++ (34 ∷ c) in
    let opened : rest_of (skip (u ++ (34 ∷ q))) ≡ q = ap rest_of (skip_white (34 ∷ q) u-is) in
    let name_is : inner q ≡ m = inner_all c m-is in
    let colon-is : rest_of (skip (beyond q)) ≡ w ++ s = ap (λ l. rest_of (skip l)) (beyond_all c m-is) ∙ ap rest_of (skip_white (58 ∷ (w ++ s)) y-is) in
    ap (λ l. after_member n (inner l) (value_at n (skip (rest_of (skip (beyond l)))))) opened
    ∙ ap₂ (λ a l. after_member n a (value_at n (skip l))) name_is colon-is
    ∙ ap (λ l. after_member n m (value_at n l)) (skip_white s w-is)

-- after the last value, and after one that others follow
last_read : (n : ℕ) (e : Json) {x : List ℕ} (r : List ℕ) → White x → after_element n (e, x ++ (93 ∷ r)) ≡ (elem e no_elem, r)
unfolding head_is rest_of
last_read n e r x-is = ap (λ l. cond (head_is 44 l) (onto (elem e) (elements_at n (rest_of l))) (elem e no_elem, rest_of l)) (skip_white (93 ∷ r) x-is)

next_read : (n : ℕ) (e : Json) {x : List ℕ} (s : List ℕ) → White x → after_element n (e, x ++ (44 ∷ s)) ≡ onto (elem e) (elements_at n s)
unfolding head_is rest_of
next_read n e s x-is = ap (λ l. cond (head_is 44 l) (onto (elem e) (elements_at n (rest_of l))) (elem e no_elem, rest_of l)) (skip_white (44 ∷ s) x-is)

last_memb_read : (n : ℕ) (m : List ℕ) (e : Json) {x : List ℕ} (r : List ℕ) → White x → after_member n m (e, x ++ (125 ∷ r)) ≡ (memb m e no_memb, r)
unfolding head_is rest_of
last_memb_read n m e r x-is = ap (λ l. cond (head_is 44 l) (onto (memb m e) (members_at n (rest_of l))) (memb m e no_memb, rest_of l)) (skip_white (125 ∷ r) x-is)

next_memb_read : (n : ℕ) (m : List ℕ) (e : Json) {x : List ℕ} (s : List ℕ) → White x → after_member n m (e, x ++ (44 ∷ s)) ≡ onto (memb m e) (members_at n s)
unfolding head_is rest_of
next_memb_read n m e s x-is = ap (λ l. cond (head_is 44 l) (onto (memb m e) (members_at n (rest_of l))) (memb m e no_memb, rest_of l)) (skip_white (44 ∷ s) x-is)

-- lengths of the parts, for the bound
part_length : (w v x r : List ℕ) → length (w ++ (v ++ (x ++ r))) ≡ length w + (length v + (length x + length r))
part_length w v x r = length-append w (v ++ (x ++ r)) ∙ ap (λ n. length w + n) (length-append v (x ++ r) ∙ ap (λ n. length v + n) (length-append x r))

member_length : (u m y w v x : List ℕ) → length (u ++ (34 ∷ (m ++ (34 ∷ (y ++ (58 ∷ (w ++ (v ++ x)))))))) ≡ length u + suc (length m + suc (length y + suc (length w + (length v + length x))))
member_length u m y w v x =
    length-append u (34 ∷ (m ++ (34 ∷ (y ++ (58 ∷ (w ++ (v ++ x)))))))
    ∙ ap (λ n. length u + suc n) (length-append m (34 ∷ (y ++ (58 ∷ (w ++ (v ++ x)))))
    ∙ ap (λ n. length m + suc n) (length-append y (58 ∷ (w ++ (v ++ x)))
    ∙ ap (λ n. length y + suc n) (length-append w (v ++ x) ∙ ap (λ n. length w + n) (length-append v x))))

mutual
  unfolding value_at array_at elements_at object_at rest_of head_is

  value_read : {t : Json} {v : List ℕ} → Value t v → (n : ℕ) → 3 * length v < n → (r : List ℕ) → Follows r → value_at n (v ++ r) ≡ (t, r)
  value_read is_null zero lt r f = absurd (omega arith)
  value_read is_null (suc n) lt r f = refl
  value_read is_true zero lt r f = absurd (omega arith)
  value_read is_true (suc n) lt r f = refl
  value_read is_false zero lt r f = absurd (omega arith)
  value_read is_false (suc n) lt r f = refl
  value_read (is_number m) zero lt r f = absurd (omega arith)
  value_read (is_number m) (suc n) lt r f = number_read n r m f
  value_read (is_string cs) zero lt r f = absurd (omega arith)
  value_read (is_string {cs} cs-are) (suc n) lt r f =
      let s = append_assoc cs (34 ∷ []) r in
      ap₂ (λ a b. (jstring a, b)) (ap inner s ∙ inner_all r cs-are) (ap beyond s ∙ beyond_all r cs-are)
  value_read (empty_array w) zero lt r f = absurd (omega arith)
  value_read (empty_array {w} w-is) (suc zero) lt r f = absurd (omega arith)
  value_read (empty_array {w} w-is) (suc (suc n)) lt r f =
      ap (λ l. onto jarray (array_at (suc n) (skip l))) (append_assoc w (93 ∷ []) r) ∙ ap (λ l. onto jarray (array_at (suc n) l)) (skip_white (93 ∷ r) w-is)
  value_read (is_array es) zero lt r f = absurd (omega arith)
  value_read (is_array {bs} es) (suc zero) lt r f = absurd (omega arith)
  value_read (is_array {bs} es) (suc (suc zero)) lt r f = absurd (omega arith)
  value_read (is_array {bs} es) (suc (suc (suc n))) lt r f =
      let s = bs ++ (93 ∷ r) in
      ap (λ l. onto jarray (array_at (suc (suc n)) (skip l))) (append_assoc bs (93 ∷ []) r)
      ∙ ap (onto jarray) (cond-false _ _ _ (elements_head (93 ∷ r) es)
      ∙ ap (λ l. after_element n (value_at n l)) (skip_skip s)
      ∙ elements_read es (suc n) (omega (arith, length-append bs (93 ∷ []))) r)
  value_read (empty_object w) zero lt r f = absurd (omega arith)
  value_read (empty_object {w} w-is) (suc zero) lt r f = absurd (omega arith)
  value_read (empty_object {w} w-is) (suc (suc n)) lt r f =
      ap (λ l. onto jobject (object_at (suc n) (skip l))) (append_assoc w (125 ∷ []) r) ∙ ap (λ l. onto jobject (object_at (suc n) l)) (skip_white (125 ∷ r) w-is)
  value_read (is_object ms) zero lt r f = absurd (omega arith)
  value_read (is_object {bs} ms) (suc zero) lt r f = absurd (omega arith)
  value_read (is_object {bs} ms) (suc (suc zero)) lt r f = absurd (omega arith)
  value_read (is_object {bs} ms) (suc (suc (suc n))) lt r f =
      let s = bs ++ (125 ∷ r) in
      ap (λ l. onto jobject (object_at (suc (suc n)) (skip l))) (append_assoc bs (125 ∷ []) r)
      ∙ ap (onto jobject) (cond-false _ _ _ (members_head (125 ∷ r) ms)
      ∙ ap (λ l. after_member n (inner (rest_of l)) (value_at n (skip (rest_of (skip (beyond (rest_of l))))))) (skip_skip s)
      ∙ members_read ms (suc n) (omega (arith, length-append bs (125 ∷ []))) r)

  elements_read : {es : Elems} {bs : List ℕ} → Elements es bs → (n : ℕ) → 3 * length bs + 1 < n → (r : List ℕ) → elements_at n (bs ++ (93 ∷ r)) ≡ (es, r)
  elements_read (last_element w v x) zero lt r = absurd (omega arith)
  elements_read (last_element {e} {w} {v} {x} w-is v-is x-is) (suc n) lt r =
      let s = x ++ (93 ∷ r) in
      ap (λ l. after_element n (value_at n (skip l))) (split_element w v x (93 ∷ r))
      ∙ ap (λ l. after_element n (value_at n l)) (skip_white (v ++ s) w-is ∙ (solid s v-is).0)
      ∙ ap (after_element n) (value_read v-is n (omega (arith, length-append w (v ++ x), length-append v x)) s (white_follows 93 r x-is refl))
      ∙ last_read n e r x-is
  elements_read (next_element w v x more) zero lt r = absurd (omega arith)
  elements_read (next_element {e} {w} {v} {x} {bs} w-is v-is x-is more) (suc n) lt r =
      let s = x ++ (44 ∷ (bs ++ (93 ∷ r))) in
      ap (λ l. after_element n (value_at n (skip l))) (split_element w v (x ++ (44 ∷ bs)) (93 ∷ r) ∙ ap (λ l. w ++ (v ++ l)) (append_assoc x (44 ∷ bs) (93 ∷ r)))
      ∙ ap (λ l. after_element n (value_at n l)) (skip_white (v ++ s) w-is ∙ (solid s v-is).0)
      ∙ ap (after_element n) (value_read v-is n (omega (arith, part_length w v x (44 ∷ bs))) s (white_follows 44 (bs ++ (93 ∷ r)) x-is refl))
      ∙ next_read n e (bs ++ (93 ∷ r)) x-is
      ∙ ap (onto (elem e)) (elements_read more n (omega (arith, part_length w v x (44 ∷ bs))) r)

  members_read : {ms : Membs} {bs : List ℕ} → Members ms bs → (n : ℕ) → 3 * length bs + 1 < n → (r : List ℕ) → members_at n (bs ++ (125 ∷ r)) ≡ (ms, r)
  members_read (last_member u n y w v x) zero lt r = absurd (omega arith)
  members_read (last_member {n = m} {e} {u} {y} {w} {v} {x} u-is n-is y-is w-is v-is x-is) (suc n) lt r =
      let s = x ++ (125 ∷ r) in
      ap (members_at (suc n)) (split_member u m y w v x (125 ∷ r))
      ∙ member_front n (v ++ s) u-is n-is y-is w-is
      ∙ ap (λ l. after_member n m (value_at n l)) (solid s v-is).0
      ∙ ap (after_member n m) (value_read v-is n (omega (arith, member_length u m y w v x)) s (white_follows 125 r x-is refl))
      ∙ last_memb_read n m e r x-is
  members_read (next_member u n y w v x more) zero lt r = absurd (omega arith)
  members_read (next_member {n = m} {e} {u} {y} {w} {v} {x} {ms} {bs} u-is n-is y-is w-is v-is x-is more) (suc n) lt r =
      let s = x ++ (44 ∷ (bs ++ (125 ∷ r))) in
      ap (members_at (suc n)) (split_member u m y w v (x ++ (44 ∷ bs)) (125 ∷ r) ∙ ap (λ l. u ++ (34 ∷ (m ++ (34 ∷ (y ++ (58 ∷ (w ++ (v ++ l)))))))) (append_assoc x (44 ∷ bs) (125 ∷ r)))
      ∙ member_front n (v ++ s) u-is n-is y-is w-is
      ∙ ap (λ l. after_member n m (value_at n l)) (solid s v-is).0
      ∙ ap (after_member n m) (value_read v-is n (omega (arith, member_length u m y w v (x ++ (44 ∷ bs)))) s (white_follows 44 (bs ++ (125 ∷ r)) x-is refl))
      ∙ next_memb_read n m e (bs ++ (125 ∷ r)) x-is
      ∙ ap (onto (memb m e)) (members_read more n (omega (arith, member_length u m y w v (x ++ (44 ∷ bs)), length-append x (44 ∷ bs))) r)

-- white space alone may follow a value
white_only : {x : List ℕ} → White x → Follows x
white_only no_byte = ends
white_only (byte {b} t more) = goes_on (let h : follow b ≡ true = grind (arith, nat_tests) in h)

text_read : {t : Json} {bs : List ℕ} → Text t bs → (n : ℕ) → 3 * length bs < n → (value_at n (skip bs)).0 ≡ t
text_read (text {w} {v} {x} w-is v-is x-is) n lt =
    ap (λ l. (value_at n l).0) (skip_white (v ++ x) w-is ∙ (solid x v-is).0)
    ∙ ap (λ p. p.0) (value_read v-is n (omega (arith, length-append w (v ++ x), length-append v x)) x (white_only x-is))

pub one_tree : (bs : List ℕ) (t u : Json) → Text t bs → Text u bs → t ≡ u
one_tree bs t u p q = let n = suc (3 * length bs) in sym (text_read p n (omega arith)) ∙ text_read q n (omega arith)
