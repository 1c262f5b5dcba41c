-- The lengths by which values are skipped are those of the grammar's values. Assumes nothing.
use Rattle.std.proofs.Common.{◌≡◌, ℕ, suc, ◌+◌, Bool, true, false, cond, not, ◌&&◌, ◌||◌, eqb, List, [], ◌∷◌, ◌++◌, length, codes, refl, ap, ◌∙◌, append_assoc, arith, length-append}
use Rattle.std.proofs.lemmas.Bool.{cond-true, cond-false, ne_eqb}
use Rattle.std.proofs.lemmas.Bool.Decides.{nat_tests}
use Rattle.json_text.specs.Beginnings.{Spot, deeper, past}
use Rattle.json_text.specs.Beginnings.Spot.{outside, inside, escaped}
use Rattle.json_text.specs.Grammar.{Chars, Each, Elements, Elems, Json, Members, Membs, Number, Value, White, hex}
use Rattle.json_text.specs.Grammar.Chars.{no_char, char, escape, unicode}
use Rattle.json_text.specs.Grammar.Each.{no_byte, byte}
use Rattle.json_text.specs.Grammar.Elements.{last_element, next_element}
use Rattle.json_text.specs.Grammar.Members.{last_member, next_member}
use Rattle.json_text.specs.Grammar.Value.{is_null, is_true, is_false, is_number, is_string, empty_array, is_array, empty_object, is_object}
use Rattle.json_text.specs.Grammar.Minus.{no_minus, minus}
use Rattle.json_text.specs.Grammar.Number.{number}
use Rattle.json_text.specs.Grammar.Whole.{zero_alone, from_one}
use Rattle.json_text.specs.Parts.{Follows, closing, escaped_length, follow, scalar_length, string_length, value_length}
use Rattle.json_text.specs.Parts.Follows.{ends, goes_on}
use Rattle.json_text.proofs.Unique.{number_numeric, numeric}

-- bytes of which none may follow a value
scalar_all : {xs : List ℕ} (r : List ℕ) → Each (λ b. not (follow b)) xs → Follows r → scalar_length (xs ++ r) ≡ length xs
scalar_all r no_byte ends = refl
scalar_all (b ∷ s) no_byte (goes_on f) = cond-true _ _ _ f
scalar_all r (byte {b} t more) f = cond-false _ _ _ (let h : follow b ≡ false = grind (arith, nat_tests) in h) ∙ ap suc (scalar_all r more f)

numeric_scalar : {n : List ℕ} → Each numeric n → Each (λ b. not (follow b)) n
numeric_scalar no_byte = no_byte
numeric_scalar (byte {b} t more) = byte (let h : not (follow b) ≡ true = grind (arith, nat_tests) in h) (numeric_scalar more)

-- the depth stays above 0
open_on : (spot : Spot) (d b e : ℕ) (s : List ℕ) → deeper spot d b ≡ suc e → closing spot d (b ∷ s) ≡ suc (closing (past spot b) (suc e) s)
open_on spot d b e s h =
    ap (λ n. cond (eqb n 0) 1 (suc (closing (past spot b) n s))) h ∙ cond-false _ _ _ (ne_eqb (suc e) 0 (λ q. omega arith))

-- no quote, bracket or brace
abbrev calm : ℕ → Bool
calm b = not (eqb b 34) && (not (eqb b 91) && (not (eqb b 123) && (not (eqb b 93) && not (eqb b 125))))

over_calm : {xs : List ℕ} (d : ℕ) (s : List ℕ) → Each calm xs → closing outside (suc d) (xs ++ s) ≡ length xs + closing outside (suc d) s
over_calm d s no_byte = omega arith
over_calm d s (byte {b} {bs} t more) =
    open_on outside (suc d) b d (bs ++ s) (let h : deeper outside (suc d) b ≡ suc d = grind (arith, nat_tests) in h)
    ∙ ap (λ p. suc (closing p (suc d) (bs ++ s))) (let h : past outside b ≡ outside = grind (arith, nat_tests) in h)
    ∙ ap suc (over_calm d s more) ∙ omega arith

calm_numeric : {n : List ℕ} → Each numeric n → Each calm n
calm_numeric no_byte = no_byte
calm_numeric (byte {b} t more) = byte (let h : calm b ≡ true = grind (arith, nat_tests) in h) (calm_numeric more)

calm_white : {w : List ℕ} → White w → Each calm w
calm_white no_byte = no_byte
calm_white (byte {b} t more) = byte (let h : calm b ≡ true = grind (arith, nat_tests) in h) (calm_white more)

-- in a string
in_on : (spot : Spot) (d b : ℕ) (to : Spot) (s : List ℕ) → deeper spot (suc d) b ≡ suc d → past spot b ≡ to → closing spot (suc d) (b ∷ s) ≡ suc (closing to (suc d) s)
in_on spot d b to s h p = open_on spot (suc d) b d s h ∙ ap (λ q. suc (closing q (suc d) s)) p

over_chars : {cs : List ℕ} (d : ℕ) (s : List ℕ) → Chars cs → closing inside (suc d) (cs ++ (34 ∷ s)) ≡ length cs + suc (closing outside (suc d) s)
over_chars d s no_char = in_on inside d 34 outside s refl refl ∙ omega arith
over_chars d s (char {b} {cs} t more) =
    in_on inside d b inside (cs ++ (34 ∷ s)) refl (let h : past inside b ≡ inside = grind (arith, nat_tests) in h) ∙ ap suc (over_chars d s more) ∙ omega arith
over_chars d s (escape {b} {cs} t more) =
    in_on inside d 92 escaped (b ∷ (cs ++ (34 ∷ s))) refl refl ∙ ap suc (in_on escaped d b inside (cs ++ (34 ∷ s)) refl refl ∙ ap suc (over_chars d s more)) ∙ omega arith
over_chars d s (unicode {h} {i} {j} {k = l} {cs} th ti tj tl more) =
    let r = cs ++ (34 ∷ s) in
    in_on inside d 92 escaped (117 ∷ h ∷ i ∷ j ∷ l ∷ r) refl refl ∙ ap suc
    (in_on escaped d 117 inside (h ∷ i ∷ j ∷ l ∷ r) refl refl ∙ ap suc
    (in_on inside d h inside (i ∷ j ∷ l ∷ r) refl (plain_hex h th) ∙ ap suc
    (in_on inside d i inside (j ∷ l ∷ r) refl (plain_hex i ti) ∙ ap suc
    (in_on inside d j inside (l ∷ r) refl (plain_hex j tj) ∙ ap suc
    (in_on inside d l inside r refl (plain_hex l tl) ∙ ap suc (over_chars d s more)))))) ∙ omega arith
  where
    plain_hex : (b : ℕ) → hex b ≡ true → past inside b ≡ inside
    plain_hex b t = grind (arith, nat_tests)

-- a string with its quotes
over_string : {cs : List ℕ} (d : ℕ) (s : List ℕ) → Chars cs → closing outside (suc d) (34 ∷ (cs ++ (34 ∷ s))) ≡ suc (length cs) + suc (closing outside (suc d) s)
over_string {cs} d s cs-are = in_on outside d 34 inside (cs ++ (34 ∷ s)) refl refl ∙ ap suc (over_chars d s cs-are) ∙ omega arith

null_calm : Each calm (codes "null")
null_calm = byte refl (byte refl (byte refl (byte refl no_byte)))

true_calm : Each calm (codes "true")
true_calm = byte refl (byte refl (byte refl (byte refl no_byte)))

false_calm : Each calm (codes "false")
false_calm = byte refl (byte refl (byte refl (byte refl (byte refl no_byte))))

-- what is opened, what is in it, and what closes it
over_container : (o c d : ℕ) (bs s : List ℕ) → deeper outside (suc d) o ≡ suc (suc d) → past outside o ≡ outside → deeper outside (suc (suc d)) c ≡ suc d → past outside c ≡ outside
    → ((r : List ℕ) → closing outside (suc (suc d)) (bs ++ r) ≡ length bs + closing outside (suc (suc d)) r)
    → closing outside (suc d) ((o ∷ (bs ++ (c ∷ []))) ++ s) ≡ length (o ∷ (bs ++ (c ∷ []))) + closing outside (suc d) s
over_container o c d bs s o-deep o-past c-deep c-past middle =
    ap (λ l. closing outside (suc d) (o ∷ l)) (append_assoc bs (c ∷ []) s)
    ∙ open_on outside (suc d) o (suc d) (bs ++ (c ∷ s)) o-deep
    ∙ ap (λ p. suc (closing p (suc (suc d)) (bs ++ (c ∷ s)))) o-past
    ∙ ap suc (middle (c ∷ s) ∙ ap (λ n. length bs + n) (open_on outside (suc (suc d)) c d s c-deep ∙ ap (λ p. suc (closing p (suc d) s)) c-past))
    ∙ omega (arith, length-append bs (c ∷ []))

-- parts one after the other
over_append : (d : ℕ) (xs ys r : List ℕ) → ((s : List ℕ) → closing outside (suc d) (xs ++ s) ≡ length xs + closing outside (suc d) s) → closing outside (suc d) (ys ++ r) ≡ length ys + closing outside (suc d) r → closing outside (suc d) ((xs ++ ys) ++ r) ≡ length (xs ++ ys) + closing outside (suc d) r
over_append d xs ys r front back =
    ap (closing outside (suc d)) (append_assoc xs ys r) ∙ front (ys ++ r) ∙ ap (λ n. length xs + n) back ∙ omega (arith, length-append xs ys)

over_byte : (d b : ℕ) (ys r : List ℕ) → calm b ≡ true → closing outside (suc d) (ys ++ r) ≡ length ys + closing outside (suc d) r → closing outside (suc d) ((b ∷ ys) ++ r) ≡ length (b ∷ ys) + closing outside (suc d) r
over_byte d b ys r t back = over_calm d (ys ++ r) (byte {b = b} t no_byte) ∙ ap (λ n. 1 + n) back ∙ omega arith

-- white space, a name in its quotes, white space and a colon
over_member : (d : ℕ) (u n y rest s : List ℕ) → White u → Chars n → White y → closing outside (suc d) (rest ++ s) ≡ length rest + closing outside (suc d) s → closing outside (suc d) ((u ++ (34 ∷ (n ++ (34 ∷ (y ++ (58 ∷ rest)))))) ++ s) ≡ length (u ++ (34 ∷ (n ++ (34 ∷ (y ++ (58 ∷ rest)))))) + closing outside (suc d) s
over_member d u n y rest s u-is n-is y-is back =
    let tail = y ++ (58 ∷ rest) in
    over_append d u (34 ∷ (n ++ (34 ∷ tail))) s (λ r. over_calm d r (calm_white u-is))
    (ap (λ l. closing outside (suc d) (34 ∷ l)) (append_assoc n (34 ∷ tail) s)
    ∙ over_string d (tail ++ s) n-is
    ∙ ap (λ m. suc (length n) + suc m) (over_append d y (58 ∷ rest) s (λ r. over_calm d r (calm_white y-is)) (over_byte d 58 rest s refl back))
    ∙ omega (arith, length-append n (34 ∷ tail)))

mutual
  over_value : {t : Json} {v : List ℕ} → Value t v → (d : ℕ) (s : List ℕ) → closing outside (suc d) (v ++ s) ≡ length v + closing outside (suc d) s
  over_value is_null d s = over_calm d s null_calm
  over_value is_true d s = over_calm d s true_calm
  over_value is_false d s = over_calm d s false_calm
  over_value (is_number n) d s = over_calm d s (calm_numeric (number_numeric n))
  over_value (is_string {cs} cs-are) d s =
      ap (λ l. closing outside (suc d) (34 ∷ l)) (append_assoc cs (34 ∷ []) s) ∙ over_string d s cs-are ∙ omega (arith, length-append cs (34 ∷ []))
  over_value (empty_array {w} w-is) d s = over_container 91 93 d w s refl refl refl refl (λ r. over_calm (suc d) r (calm_white w-is))
  over_value (is_array {bs} es) d s = over_container 91 93 d bs s refl refl refl refl (λ r. over_elements es (suc d) r)
  over_value (empty_object {w} w-is) d s = over_container 123 125 d w s refl refl refl refl (λ r. over_calm (suc d) r (calm_white w-is))
  over_value (is_object {bs} ms) d s = over_container 123 125 d bs s refl refl refl refl (λ r. over_members ms (suc d) r)

  over_elements : {es : Elems} {bs : List ℕ} → Elements es bs → (d : ℕ) (s : List ℕ) → closing outside (suc d) (bs ++ s) ≡ length bs + closing outside (suc d) s
  over_elements (last_element {w} {v} {x} w-is v-is x-is) d s =
      over_append d w (v ++ x) s (λ r. over_calm d r (calm_white w-is)) (over_append d v x s (over_value v-is d) (over_calm d s (calm_white x-is)))
  over_elements (next_element {w} {v} {x} {bs} w-is v-is x-is more) d s =
      over_append d w (v ++ (x ++ (44 ∷ bs))) s (λ r. over_calm d r (calm_white w-is))
      (over_append d v (x ++ (44 ∷ bs)) s (over_value v-is d)
      (over_append d x (44 ∷ bs) s (λ r. over_calm d r (calm_white x-is)) (over_byte d 44 bs s refl (over_elements more d s))))

  over_members : {ms : Membs} {bs : List ℕ} → Members ms bs → (d : ℕ) (s : List ℕ) → closing outside (suc d) (bs ++ s) ≡ length bs + closing outside (suc d) s
  over_members (last_member {n} {u} {y} {w} {v} {x} u-is n-is y-is w-is v-is x-is) d s =
      over_member d u n y (w ++ (v ++ x)) s u-is n-is y-is
      (over_append d w (v ++ x) s (λ r. over_calm d r (calm_white w-is)) (over_append d v x s (over_value v-is d) (over_calm d s (calm_white x-is))))
  over_members (next_member {n} {u} {y} {w} {v} {x} {bs} u-is n-is y-is w-is v-is x-is more) d s =
      over_member d u n y (w ++ (v ++ (x ++ (44 ∷ bs)))) s u-is n-is y-is
      (over_append d w (v ++ (x ++ (44 ∷ bs))) s (λ r. over_calm d r (calm_white w-is))
      (over_append d v (x ++ (44 ∷ bs)) s (over_value v-is d)
      (over_append d x (44 ∷ bs) s (λ r. over_calm d r (calm_white x-is)) (over_byte d 44 bs s refl (over_members more d s)))))

-- a container ends where all that it opened is closed
pub closing_container : (o c : ℕ) (bs r : List ℕ) → deeper outside 0 o ≡ 1 → past outside o ≡ outside → deeper outside 1 c ≡ 0 → ((s : List ℕ) → closing outside 1 (bs ++ s) ≡ length bs + closing outside 1 s) → closing outside 0 ((o ∷ (bs ++ (c ∷ []))) ++ r) ≡ length (o ∷ (bs ++ (c ∷ [])))
closing_container o c bs r o-deep o-past c-deep middle =
    ap (λ l. closing outside 0 (o ∷ l)) (append_assoc bs (c ∷ []) r)
    ∙ open_on outside 0 o 0 (bs ++ (c ∷ r)) o-deep
    ∙ ap (λ p. suc (closing p 1 (bs ++ (c ∷ r)))) o-past
    ∙ ap suc (middle (c ∷ r) ∙ ap (λ n. length bs + n) (ap (λ n. cond (eqb n 0) 1 (suc (closing (past outside c) n r))) c-deep))
    ∙ omega (arith, length-append bs (c ∷ []))

-- a string ends at its first quote that no backslash stands before
pub string_all : {cs : List ℕ} (r : List ℕ) → Chars cs → string_length (cs ++ (34 ∷ r)) ≡ suc (length cs)
unfolding string_length escaped_length
string_all r no_char = refl
string_all r (char {b} t more) =
    cond-false _ _ _ (let h : eqb b 34 ≡ false = grind (arith, nat_tests) in h) ∙ ap suc (cond-false _ _ _ (let h : eqb b 92 ≡ false = grind (arith, nat_tests) in h) ∙ string_all r more)
string_all r (escape t more) = ap (λ n. suc (suc n)) (string_all r more)
string_all r (unicode {h} {i} {j} {k = l} {cs} th ti tj tl more) =
    let s = cs ++ (34 ∷ r) in
    ap (λ n. suc (suc n)) (plain_step h (i ∷ j ∷ l ∷ s) th ∙ ap suc (plain_step i (j ∷ l ∷ s) ti ∙ ap suc (plain_step j (l ∷ s) tj ∙ ap suc (plain_step l s tl ∙ ap suc (string_all r more)))))
  where
    plain_step : (b : ℕ) (s : List ℕ) → hex b ≡ true → string_length (b ∷ s) ≡ suc (string_length s)
    plain_step b s t =
        cond-false _ _ _ (let e : eqb b 34 ≡ false = grind (arith, nat_tests) in e) ∙ ap suc (cond-false _ _ _ (let e : eqb b 92 ≡ false = grind (arith, nat_tests) in e))

-- a number begins with no quote, bracket or brace
number_length : {n : List ℕ} (r : List ℕ) → Number n → value_length (n ++ r) ≡ scalar_length (n ++ r)
number_length r (number no_minus zero_alone f x) = refl
number_length r (number no_minus (from_one {d} t ds) f x) =
    cond-false _ _ _ (let e : eqb d 34 ≡ false = grind (arith, nat_tests) in e) ∙ cond-false _ _ _ (let e : (eqb d 91 || eqb d 123) ≡ false = grind (arith, nat_tests) in e)
number_length r (number minus i f x) = refl

null_scalar : Each (λ b. not (follow b)) (codes "null")
null_scalar = byte refl (byte refl (byte refl (byte refl no_byte)))

true_scalar : Each (λ b. not (follow b)) (codes "true")
true_scalar = byte refl (byte refl (byte refl (byte refl no_byte)))

false_scalar : Each (λ b. not (follow b)) (codes "false")
false_scalar = byte refl (byte refl (byte refl (byte refl (byte refl no_byte))))

-- the length that is read off is that of the value
pub value_length_is : {t : Json} {v : List ℕ} (r : List ℕ) → Value t v → Follows r → value_length (v ++ r) ≡ length v
value_length_is r is_null f = scalar_all r null_scalar f
value_length_is r is_true f = scalar_all r true_scalar f
value_length_is r is_false f = scalar_all r false_scalar f
value_length_is r (is_number n) f = number_length r n ∙ scalar_all r (numeric_scalar (number_numeric n)) f
value_length_is r (is_string {cs} cs-are) f = ap (λ l. suc (string_length l)) (append_assoc cs (34 ∷ []) r) ∙ ap suc (string_all r cs-are) ∙ omega (arith, length-append cs (34 ∷ []))
value_length_is r (empty_array {w} w-is) f = closing_container 91 93 w r refl refl refl (λ s. over_calm 0 s (calm_white w-is))
value_length_is r (is_array {bs} es) f = closing_container 91 93 bs r refl refl refl (λ s. over_elements es 0 s)
value_length_is r (empty_object {w} w-is) f = closing_container 123 125 w r refl refl refl (λ s. over_calm 0 s (calm_white w-is))
value_length_is r (is_object {bs} ms) f = closing_container 123 125 bs r refl refl refl (λ s. over_members ms 0 s)
