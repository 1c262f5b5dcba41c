-- The machine accepts every text of the grammar. Assumes nothing.
use Rattle.std.proofs.Common.{◌≡◌, ℕ, Bool, true, false, ◌⊎◌, List, [], ◌∷◌, ◌++◌, sym, refl, ap, ◌∙◌, subst, inl, inr, append_assoc, arith}
use Rattle.std.proofs.lemmas.Bool.{cond-true}
use Rattle.std.proofs.lemmas.Bool.Decides.{nat_tests}
use Rattle.json_text.specs.Grammar.{Chars, Digits, Each, Elements, Elems, Exponent, Fraction, Json, Members, Membs, Minus, Number, Sign, Text, Value, White, Whole, digit, power}
use Rattle.json_text.specs.Grammar.Chars.{no_char, char, escape, unicode}
use Rattle.json_text.specs.Grammar.Digits.{digits}
use Rattle.json_text.specs.Grammar.Each.{no_byte, byte}
use Rattle.json_text.specs.Grammar.Elements.{last_element, next_element}
use Rattle.json_text.specs.Grammar.Exponent.{no_exponent, exponent}
use Rattle.json_text.specs.Grammar.Fraction.{no_fraction, fraction}
use Rattle.json_text.specs.Grammar.Members.{last_member, next_member}
use Rattle.json_text.specs.Grammar.Minus.{no_minus, minus}
use Rattle.json_text.specs.Grammar.Number.{number}
use Rattle.json_text.specs.Grammar.Sign.{no_sign, signed as a-sign}
use Rattle.json_text.specs.Grammar.Text.{text}
use Rattle.json_text.specs.Grammar.Value.{is_null, is_true, is_false, is_number, is_string, empty_array, is_array, empty_object, is_object}
use Rattle.json_text.specs.Grammar.Whole.{zero_alone, from_one}
use Rattle.json_text.specs.Machine.{Kind, Mode, State, accepts, begin, closed, go_on, run, step}
use Rattle.json_text.specs.Machine.Kind.{arr, obj}
use Rattle.json_text.specs.Machine.Mode.{value, first, name, opened, colon, after, chars, minused, zeroed, whole, places, powered, scaled}
use Rattle.json_text.specs.Machine.State.{live}
use Rattle.json_text.specs.Parts.{follow}
use Rattle.json_text.proofs.Runs.{Done, done_after, done_places, done_scaled, done_whole, done_zeroed, each_stays, go_on_white, run_append, white_after, white_colon, white_first, white_name, white_opened, white_value, whole_from_value}

-- a number's state before its fraction, and before its exponent
abbrev AtWhole : List Kind → State → Type 0
AtWhole k s = (s ≡ live zeroed k) ⊎ (s ≡ live whole k)

abbrev AtPlaces : List Kind → State → Type 0
AtPlaces k s = (s ≡ live places k) ⊎ AtWhole k s

digits_stay : (k : List Kind) (m : Mode) → ((b : ℕ) → digit b ≡ true → step (live m k) b ≡ live m k) → {ds : List ℕ} → Each digit ds → run (live m k) ds ≡ live m k
digits_stay k m stays e = each_stays digit (live m k) stays e

whole_run : (k : List Kind) (s : State) {i : List ℕ} → (s ≡ live value k) ⊎ (s ≡ live minused k) → Whole i → AtWhole k (run s i)
whole_run k s (inl e) zero_alone = inl (ap (λ u. run u (48 ∷ [])) e)
whole_run k s (inr e) zero_alone = inl (ap (λ u. run u (48 ∷ [])) e)
whole_run k s (inl e) (from_one {d} {ds} t ds-are) =
    inr (ap (λ u. run u (d ∷ ds)) e ∙ ap (λ u. run u ds) (whole_from_value k d t) ∙ digits_stay k whole (λ b h. cond-true _ _ _ h) ds-are)
whole_run k s (inr e) (from_one {d} {ds} t ds-are) =
    inr (ap (λ u. run u (d ∷ ds)) e ∙ ap (λ u. run u ds) (let h : step (live minused k) d ≡ live whole k = grind (arith, nat_tests) in h) ∙ digits_stay k whole (λ b h. cond-true _ _ _ h) ds-are)

fraction_run : (k : List Kind) (s : State) {f : List ℕ} → AtWhole k s → Fraction f → AtPlaces k (run s f)
fraction_run k s at no_fraction = inr at
fraction_run k s (inl e) (fraction (digits {d} {ds} t ds-are)) =
    inl (ap (λ u. run u (46 ∷ d ∷ ds)) e ∙ ap (λ u. run u ds) (cond-true _ _ _ t) ∙ digits_stay k places (λ b h. cond-true _ _ _ h) ds-are)
fraction_run k s (inr e) (fraction (digits {d} {ds} t ds-are)) =
    inl (ap (λ u. run u (46 ∷ d ∷ ds)) e ∙ ap (λ u. run u ds) (cond-true _ _ _ t) ∙ digits_stay k places (λ b h. cond-true _ _ _ h) ds-are)

done_at : (k : List Kind) (s : State) → AtPlaces k s → Done k s
done_at k s (inl e) = subst (Done k) (sym e) (done_places k)
done_at k s (inr (inl e)) = subst (Done k) (sym e) (done_zeroed k)
done_at k s (inr (inr e)) = subst (Done k) (sym e) (done_whole k)

powered_from : (k : List Kind) (s : State) (e : ℕ) → AtPlaces k s → power e ≡ true → step s e ≡ live powered k
powered_from k s e (inl p) t = ap (λ u. step u e) p ∙ grind (arith, nat_tests)
powered_from k s e (inr (inl p)) t = ap (λ u. step u e) p ∙ grind (arith, nat_tests)
powered_from k s e (inr (inr p)) t = ap (λ u. step u e) p ∙ grind (arith, nat_tests)

scaled_run : (k : List Kind) {g ds : List ℕ} → Sign g → Digits ds → run (live powered k) (g ++ ds) ≡ live scaled k
scaled_run k no_sign (digits {d} {ds} t ds-are) =
    ap (λ u. run u ds) (let h : step (live powered k) d ≡ live scaled k = grind (arith, nat_tests) in h) ∙ digits_stay k scaled (λ b h. cond-true _ _ _ h) ds-are
scaled_run k (a-sign {b} u) (digits {d} {ds} t ds-are) =
    ap (λ v. run v (d ∷ ds)) (cond-true _ _ _ u) ∙ ap (λ v. run v ds) (cond-true _ _ _ t) ∙ digits_stay k scaled (λ b h. cond-true _ _ _ h) ds-are

exponent_run : (k : List Kind) (s : State) {x : List ℕ} → AtPlaces k s → Exponent x → Done k (run s x)
exponent_run k s at no_exponent = done_at k s at
exponent_run k s at (exponent {e} {s = g} {ds} t g-is ds-are) =
    subst (Done k) (sym (ap (λ u. run u (g ++ ds)) (powered_from k s e at t) ∙ scaled_run k g-is ds-are)) (done_scaled k)

minus_run : (k : List Kind) {m : List ℕ} → Minus m → (run (live value k) m ≡ live value k) ⊎ (run (live value k) m ≡ live minused k)
minus_run k no_minus = inl refl
minus_run k minus = inr refl

pub number_run : (k : List Kind) {n : List ℕ} → Number n → Done k (run (live value k) n)
number_run k (number {m} {i} {f} {x} m-is i-is f-is x-is) =
    subst (Done k) (sym (run_append (live value k) m (i ++ (f ++ x)) ∙ run_append _ i (f ++ x) ∙ run_append _ f x))
    (exponent_run k _ (fraction_run k _ (whole_run k _ (minus_run k m-is) i-is) f-is) x-is)

-- a string's bytes lead to its closing quote
pub chars_run : (k : List Kind) (n : Bool) {cs : List ℕ} → Chars cs → run (live (chars n) k) cs ≡ live (chars n) k
chars_run k n no_char = refl
chars_run k n (char {b} {cs} t more) = ap (λ u. run u cs) (let h : step (live (chars n) k) b ≡ live (chars n) k = grind (arith, nat_tests) in h) ∙ chars_run k n more
chars_run k n (escape {b} {cs} t more) = ap (λ u. run u cs) (cond-true _ _ _ t) ∙ chars_run k n more
chars_run k n (unicode {h} {i} {j} {k = l} {cs} th ti tj tl more) =
    ap (λ u. run u (i ∷ j ∷ l ∷ cs)) (cond-true _ _ _ th) ∙ ap (λ u. run u (j ∷ l ∷ cs)) (cond-true _ _ _ ti) ∙ ap (λ u. run u (l ∷ cs)) (cond-true _ _ _ tj) ∙ ap (λ u. run u cs) (cond-true _ _ _ tl) ∙ chars_run k n more

-- with its closing quote
pub string_run : (k : List Kind) (n : Bool) {cs : List ℕ} → Chars cs → run (live (chars n) k) (cs ++ (34 ∷ [])) ≡ closed n k
string_run k n {cs} cs-are = run_append _ cs (34 ∷ []) ∙ ap (λ u. run u (34 ∷ [])) (chars_run k n cs-are)

-- white space after a value
pub white_done : (k : List Kind) (s : State) {x : List ℕ} → Done k s → White x → Done k (run s x)
white_done k s d no_byte = d
white_done k s d (byte {b} {bs} t more) =
    let f : follow b ≡ true = grind (arith, nat_tests) in
    subst (Done k) (sym (ap (λ u. run u bs) (d.steps b f ∙ go_on_white k b t) ∙ white_after k more)) (done_after k)

-- a value in an array is no end of the array
first_number : (k : List Kind) {n : List ℕ} → Number n → run (live first (arr ∷ k)) n ≡ run (live value (arr ∷ k)) n
first_number k (number no_minus zero_alone f-is x-is) = refl
first_number k (number {f} {x} no_minus (from_one {d} {ds} t ds-are) f-is x-is) = ap (λ u. run u (ds ++ (f ++ x))) (let h : step (live first (arr ∷ k)) d ≡ step (live value (arr ∷ k)) d = grind (arith, nat_tests) in h)
first_number k (number minus i-is f-is x-is) = refl

first_value : (k : List Kind) {t : Json} {v : List ℕ} → Value t v → run (live first (arr ∷ k)) v ≡ run (live value (arr ∷ k)) v
first_value k is_null = refl
first_value k is_true = refl
first_value k is_false = refl
first_value k (is_number n) = first_number k n
first_value k (is_string cs) = refl
first_value k (empty_array w) = refl
first_value k (is_array es) = refl
first_value k (empty_object w) = refl
first_value k (is_object ms) = refl

-- a value with white space around it
padded_run : (k : List Kind) (s : State) (w v : List ℕ) {x : List ℕ} → run s w ≡ s → Done k (run s v) → White x → Done k (run s (w ++ (v ++ x)))
padded_run k s w v {x} stays d x-is =
    subst (Done k) (sym (run_append s w (v ++ x) ∙ ap (λ u. run u (v ++ x)) stays ∙ run_append s v x)) (white_done k (run s v) d x-is)

-- from the state after a value, a byte that may follow
then : (k : List Kind) (s : State) (p : List ℕ) (b : ℕ) (r : List ℕ) → Done k (run s p) → follow b ≡ true → run s (p ++ (b ∷ r)) ≡ run (go_on k b) r
then k s p b r d f = run_append s p (b ∷ r) ∙ ap (λ u. run u r) (d.steps b f)

-- one more, and then the rest, up to the closing bracket or brace
then_more : (k : List Kind) (s : State) (p bs : List ℕ) (c : ℕ) (to : State) → Done k (run s p) → run (go_on k 44) (bs ++ (c ∷ [])) ≡ to → run s ((p ++ (44 ∷ bs)) ++ (c ∷ [])) ≡ to
then_more k s p bs c to d rest = ap (run s) (append_assoc p (44 ∷ bs) (c ∷ [])) ∙ then k s p 44 (bs ++ (c ∷ [])) d refl ∙ rest

pub split_element : (w v x r : List ℕ) → (w ++ (v ++ x)) ++ r ≡ w ++ (v ++ (x ++ r))
split_element w v x r = append_assoc w (v ++ x) r ∙ ap (λ l. w ++ l) (append_assoc v x r)

pub split_member : (u n y w v x r : List ℕ) → (u ++ (34 ∷ (n ++ (34 ∷ (y ++ (58 ∷ (w ++ (v ++ x)))))))) ++ r ≡ u ++ (34 ∷ (n ++ (34 ∷ (y ++ (58 ∷ (w ++ (v ++ (x ++ r))))))))
split_member u n y w v x r =
    append_assoc u (34 ∷ (n ++ (34 ∷ (y ++ (58 ∷ (w ++ (v ++ x))))))) r
    ∙ ap (λ l. u ++ (34 ∷ l)) (append_assoc n (34 ∷ (y ++ (58 ∷ (w ++ (v ++ x))))) r
    ∙ ap (λ l. n ++ (34 ∷ l)) (append_assoc y (58 ∷ (w ++ (v ++ x))) r
    ∙ ap (λ l. y ++ (58 ∷ l)) (split_element w v x r)))

-- a member, from a state that waits for its name
member_run : (k : List Kind) (s : State) (u v : List ℕ) {n y w x : List ℕ} → run s u ≡ s → step s 34 ≡ live (chars true) k → Chars n → White y → White w → Done k (run (live value k) v) → White x → Done k (run s (u ++ (34 ∷ (n ++ (34 ∷ (y ++ (58 ∷ (w ++ (v ++ x)))))))))
member_run k s u v {n} {y} {w} {x} stays quote n-is y-is w-is d x-is =
    let rest = w ++ (v ++ x) in
    let colon-on = 34 ∷ (y ++ (58 ∷ rest)) in
    let name-on = 34 ∷ (n ++ colon-on) in
    subst (Done k) (sym
    (run_append s u name-on
    ∙ ap (λ t. run t name-on) stays
    ∙ ap (λ t. run t (n ++ colon-on)) quote
    ∙ run_append (live (chars true) k) n colon-on
    ∙ ap (λ t. run t colon-on) (chars_run k true n-is)
    ∙ run_append (live colon k) y (58 ∷ rest)
    ∙ ap (λ t. run t (58 ∷ rest)) (white_colon k y-is)))
    (padded_run k (live value k) w v (white_value k w-is) d x-is)

mutual
  pub value_run : (k : List Kind) {t : Json} {v : List ℕ} → Value t v → Done k (run (live value k) v)
  value_run k is_null = done_after k
  value_run k is_true = done_after k
  value_run k is_false = done_after k
  value_run k (is_number n) = number_run k n
  value_run k (is_string cs-are) = subst (Done k) (sym (string_run k false cs-are)) (done_after k)
  value_run k (empty_array {w} w-is) = subst (Done k) (sym (run_append _ w (93 ∷ []) ∙ ap (λ u. run u (93 ∷ [])) (white_first k w-is))) (done_after k)
  value_run k (is_array {bs} es) = subst (Done k) (sym (elements_first k es)) (done_after k)
  value_run k (empty_object {w} w-is) = subst (Done k) (sym (run_append _ w (125 ∷ []) ∙ ap (λ u. run u (125 ∷ [])) (white_opened k w-is))) (done_after k)
  value_run k (is_object {bs} ms) = subst (Done k) (sym (members_first k ms)) (done_after k)

  elements_first : (k : List Kind) {es : Elems} {bs : List ℕ} → Elements es bs → run (live first (arr ∷ k)) (bs ++ (93 ∷ [])) ≡ live after k
  elements_first k (last_element {w} {v} {x} w-is v-is x-is) =
      then (arr ∷ k) _ (w ++ (v ++ x)) 93 [] (padded_run (arr ∷ k) (live first (arr ∷ k)) w v (white_first k w-is) (subst (Done (arr ∷ k)) (sym (first_value k v-is)) (value_run (arr ∷ k) v-is)) x-is) refl
  elements_first k (next_element {w} {v} {x} {bs} w-is v-is x-is more) =
      ap (λ l. run (live first (arr ∷ k)) (l ++ (93 ∷ []))) (sym (split_element w v x (44 ∷ bs)))
      ∙ then_more (arr ∷ k) _ (w ++ (v ++ x)) bs 93 (live after k) (padded_run (arr ∷ k) (live first (arr ∷ k)) w v (white_first k w-is) (subst (Done (arr ∷ k)) (sym (first_value k v-is)) (value_run (arr ∷ k) v-is)) x-is) (elements_run k more)

  elements_run : (k : List Kind) {es : Elems} {bs : List ℕ} → Elements es bs → run (live value (arr ∷ k)) (bs ++ (93 ∷ [])) ≡ live after k
  elements_run k (last_element {w} {v} {x} w-is v-is x-is) =
      then (arr ∷ k) _ (w ++ (v ++ x)) 93 [] (padded_run (arr ∷ k) (live value (arr ∷ k)) w v (white_value (arr ∷ k) w-is) (value_run (arr ∷ k) v-is) x-is) refl
  elements_run k (next_element {w} {v} {x} {bs} w-is v-is x-is more) =
      ap (λ l. run (live value (arr ∷ k)) (l ++ (93 ∷ []))) (sym (split_element w v x (44 ∷ bs)))
      ∙ then_more (arr ∷ k) _ (w ++ (v ++ x)) bs 93 (live after k) (padded_run (arr ∷ k) (live value (arr ∷ k)) w v (white_value (arr ∷ k) w-is) (value_run (arr ∷ k) v-is) x-is) (elements_run k more)

  members_first : (k : List Kind) {ms : Membs} {bs : List ℕ} → Members ms bs → run (live opened (obj ∷ k)) (bs ++ (125 ∷ [])) ≡ live after k
  members_first k (last_member {n} {u} {y} {w} {v} {x} u-is n-is y-is w-is v-is x-is) =
      then (obj ∷ k) _ (u ++ (34 ∷ (n ++ (34 ∷ (y ++ (58 ∷ (w ++ (v ++ x)))))))) 125 [] (member_run (obj ∷ k) _ u v (white_opened k u-is) refl n-is y-is w-is (value_run (obj ∷ k) v-is) x-is) refl
  members_first k (next_member {n} {u} {y} {w} {v} {x} {bs} u-is n-is y-is w-is v-is x-is more) =
      ap (λ l. run (live opened (obj ∷ k)) (l ++ (125 ∷ []))) (sym (split_member u n y w v x (44 ∷ bs)))
      ∙ then_more (obj ∷ k) (live opened (obj ∷ k)) (u ++ (34 ∷ (n ++ (34 ∷ (y ++ (58 ∷ (w ++ (v ++ x)))))))) bs 125 (live after k) (member_run (obj ∷ k) _ u v (white_opened k u-is) refl n-is y-is w-is (value_run (obj ∷ k) v-is) x-is) (members_run k more)

  members_run : (k : List Kind) {ms : Membs} {bs : List ℕ} → Members ms bs → run (live name (obj ∷ k)) (bs ++ (125 ∷ [])) ≡ live after k
  members_run k (last_member {n} {u} {y} {w} {v} {x} u-is n-is y-is w-is v-is x-is) =
      then (obj ∷ k) _ (u ++ (34 ∷ (n ++ (34 ∷ (y ++ (58 ∷ (w ++ (v ++ x)))))))) 125 [] (member_run (obj ∷ k) _ u v (white_name (obj ∷ k) u-is) refl n-is y-is w-is (value_run (obj ∷ k) v-is) x-is) refl
  members_run k (next_member {n} {u} {y} {w} {v} {x} {bs} u-is n-is y-is w-is v-is x-is more) =
      ap (λ l. run (live name (obj ∷ k)) (l ++ (125 ∷ []))) (sym (split_member u n y w v x (44 ∷ bs)))
      ∙ then_more (obj ∷ k) (live name (obj ∷ k)) (u ++ (34 ∷ (n ++ (34 ∷ (y ++ (58 ∷ (w ++ (v ++ x)))))))) bs 125 (live after k) (member_run (obj ∷ k) _ u v (white_name (obj ∷ k) u-is) refl n-is y-is w-is (value_run (obj ∷ k) v-is) x-is) (members_run k more)

pub text_accepted : {t : Json} {bs : List ℕ} → Text t bs → accepts (run begin bs) ≡ true
text_accepted (text {w} {v} {x} w-is v-is x-is) = (padded_run [] begin w v (white_value [] w-is) (value_run [] v-is) x-is).ends
