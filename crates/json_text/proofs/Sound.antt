-- What the machine accepts is a text of the grammar. Assumes nothing.
use Rattle.std.proofs.Common.{◌≡◌, ℕ, zero, suc, ◌+◌, ◌*◌, ◌<◌, ◌≤◌, true, false, cond, eqb, List, [], ◌∷◌, ◌++◌, length, sym, refl, ap, ◌∙◌, subst, ⊎_elim, append_assoc, arith, length-append}
use Rattle.std.proofs.lemmas.Bool.{eqb-true, false≢true}
use Rattle.json_text.specs.Grammar.{Chars, Elements, Elems, Json, Members, Membs, Minus, Text, Value, White, Whole, nonzero, white}
use Rattle.json_text.specs.Grammar.Elems.{no_elem, elem}
use Rattle.json_text.specs.Grammar.Elements.{last_element, next_element}
use Rattle.json_text.specs.Grammar.Json.{jnull, jtrue, jfalse, jnumber, jstring, jarray, jobject}
use Rattle.json_text.specs.Grammar.Members.{last_member, next_member}
use Rattle.json_text.specs.Grammar.Membs.{no_memb, memb}
use Rattle.json_text.specs.Grammar.Minus.{no_minus, minus}
use Rattle.json_text.specs.Grammar.Number.{number}
use Rattle.json_text.specs.Grammar.Text.{text}
use Rattle.json_text.specs.Grammar.Value.{is_null, is_true, is_false, is_number, is_string, empty_array, is_array, empty_object, is_object}
use Rattle.json_text.specs.Grammar.Whole.{zero_alone, from_one}
use Rattle.json_text.specs.Machine.{Kind, State, accepts, begin, run, start}
use Rattle.json_text.specs.Machine.Kind.{arr, obj}
use Rattle.json_text.specs.Machine.Mode.{value, first, name, opened, colon, after, chars, literal, minused, whole, zeroed}
use Rattle.json_text.specs.Machine.State.{dead, live}
use Rattle.json_text.proofs.Complete.{split_element, split_member}
use Rattle.json_text.proofs.Tokens.{Acc, Led, On, Part, Tail, by_last, by_test, chars_cut, led, led_or_all, literal_cut, not_dead, whole_cut, zeroed_cut}

-- a value at the front of the text
record Found (k : List Kind) (s : List ℕ) : Type 0 where
  tree : Json
  bytes : List ℕ
  rest : List ℕ
  cut : s ≡ bytes ++ rest
  is : Value tree bytes
  on : On k rest
  short : length rest < length s

-- the values of an array, and its end
record FoundElems (k : List Kind) (s : List ℕ) : Type 0 where
  elems : Elems
  bytes : List ℕ
  rest : List ℕ
  cut : s ≡ bytes ++ (93 ∷ rest)
  is : Elements elems bytes
  on : On k rest
  short : length rest < length s

-- the members of an object, and its end
record FoundMembs (k : List Kind) (s : List ℕ) : Type 0 where
  membs : Membs
  bytes : List ℕ
  rest : List ℕ
  cut : s ≡ bytes ++ (125 ∷ rest)
  is : Members membs bytes
  on : On k rest
  short : length rest < length s

found_literal : (k : List Kind) (t : Json) (b c : ℕ) (cs s : List ℕ) → Value t (b ∷ c ∷ cs) → Part (λ x. x ≡ c ∷ cs) k s → Found k (b ∷ s)
found_literal k t b c cs s v p = record {
  tree = t;
  bytes = b ∷ c ∷ cs;
  rest = p.rest;
  cut = ap (λ x. b ∷ x) (p.cut ∙ ap (λ x. x ++ p.rest) p.is);
  is = v;
  on = p.on;
  short = omega (arith, p.short);
}

-- a number after its minus and its whole part's first byte
found_number : (k : List Kind) (m i s y rest : List ℕ) → Minus m → Whole i → Tail y → s ≡ y ++ rest → On k rest → length rest ≤ length s → Found k (m ++ (i ++ s))
found_number k m i s y rest m-is i-is t cut on short =
    let f = t.0 in
    let x = t.1 in
    record {
      tree = jnumber (m ++ (i ++ (f ++ x)));
      bytes = m ++ (i ++ (f ++ x));
      rest = rest;
      cut =
          ap (λ l. m ++ (i ++ l)) (cut ∙ ap (λ l. l ++ rest) t.2)
          ∙ ap (λ l. m ++ l) (sym (append_assoc i (f ++ x) rest))
          ∙ sym (append_assoc m (i ++ (f ++ x)) rest);
      is = is_number (number m-is i-is t.3 t.4);
      on = on;
      short = omega (arith, length-append m (i ++ s), length-append i s, whole_some i i-is);
    }
  where
    whole_some : (i : List ℕ) → Whole i → 0 < length i
    whole_some i zero_alone = omega arith
    whole_some i (from_one t e) = omega arith

found_zero : (k : List Kind) (m s : List ℕ) → Minus m → Acc (live zeroed k) s → Found k (m ++ (48 ∷ s))
found_zero k m s m-is h =
    let p = zeroed_cut k s h in
    found_number k m (48 ∷ []) s p.front p.rest m-is zero_alone p.is p.cut p.on p.short

found_whole : (k : List Kind) (m : List ℕ) (d : ℕ) (s : List ℕ) → Minus m → nonzero d ≡ true → Acc (live whole k) s → Found k (m ++ (d ∷ s))
found_whole k m d s m-is t h =
    let p = whole_cut k s h in
    let ds = p.is.0 in
    let y = p.is.1 in
    let cut : s ≡ ds ++ (y ++ p.rest) = p.cut ∙ ap (λ l. l ++ p.rest) p.is.2 ∙ append_assoc ds y p.rest in
    subst (λ l. Found k (m ++ (d ∷ l))) (sym cut)
    (found_number k m (d ∷ ds) (y ++ p.rest) y p.rest m-is (from_one t p.is.3) p.is.4 refl p.on (omega (arith, length-append y p.rest)))

found_minus : (k : List Kind) (s : List ℕ) → Acc (live minused k) s → Found k (45 ∷ s)
found_minus k [] h = absurd (false≢true h)
found_minus k (b ∷ s) h =
    ⊎_elim
    (λ z. subst (λ x. Found k (45 ∷ x ∷ s)) (sym (eqb-true b 48 z.0)) (found_zero k (45 ∷ []) s minus z.1))
    (λ r. let d = by_last s (nonzero b) (live whole k) r.1 in found_whole k (45 ∷ []) b s minus d.0 d.1)
    (by_test s (eqb b 48) _ _ h)

found_string : (k : List Kind) (s : List ℕ) → Acc (live (chars false) k) s → Found k (34 ∷ s)
found_string k s h =
    let q = chars_cut false k s h in
    record {
      tree = jstring q.front;
      bytes = 34 ∷ (q.front ++ (34 ∷ []));
      rest = q.rest;
      cut = ap (λ l. 34 ∷ l) (q.cut ∙ sym (append_assoc q.front (34 ∷ []) q.rest));
      is = is_string q.is;
      on = q.on;
      short = omega (arith, q.short);
    }

-- what may follow a value in an array, and in an object
abbrev after_elem : List Kind → ℕ → State
after_elem k b = cond (eqb b 44) (live value (arr ∷ k)) (cond (eqb b 93) (live after k) dead)

abbrev after_memb : List Kind → ℕ → State
after_memb k b = cond (eqb b 44) (live name (obj ∷ k)) (cond (eqb b 125) (live after k) dead)

led_elem : (k : List Kind) (s : List ℕ) → On (arr ∷ k) s → Led white (after_elem k) s
led_elem k s h = led white (live after (arr ∷ k)) (after_elem k) (λ b. refl) refl s h

led_memb : (k : List Kind) (s : List ℕ) → On (obj ∷ k) s → Led white (after_memb k) s
led_memb k s h = led white (live after (obj ∷ k)) (after_memb k) (λ b. refl) refl s h

led_value : (k : List Kind) (s : List ℕ) → Acc (live value k) s → Led white (start k) s
led_value k s h = led white (live value k) (start k) (λ b. refl) refl s h

-- an array's last value, and its end
last_elem : (k : List Kind) (w : List ℕ) (b : ℕ) (r : List ℕ) → White w → (f : Found (arr ∷ k) (b ∷ r)) → (l : Led white (after_elem k) f.rest) → eqb l.here 93 ≡ true → On k l.rest → FoundElems k (w ++ (b ∷ r))
last_elem k w b r w-is f l c on = record {
  elems = elem f.tree no_elem;
  bytes = w ++ (f.bytes ++ l.front);
  rest = l.rest;
  cut =
      ap (λ x. w ++ x) (f.cut ∙ ap (λ x. f.bytes ++ x) (l.cut ∙ ap (λ x. l.front ++ (x ∷ l.rest)) (eqb-true l.here 93 c)))
      ∙ sym (split_element w f.bytes l.front (93 ∷ l.rest));
  is = last_element w-is f.is l.is;
  on = on;
  short = omega (arith, f.short, l.short, length-append w (b ∷ r));
}

-- a value, a comma and the other values
next_elem : (k : List Kind) (w : List ℕ) (b : ℕ) (r : List ℕ) → White w → (f : Found (arr ∷ k) (b ∷ r)) → (l : Led white (after_elem k) f.rest) → eqb l.here 44 ≡ true → FoundElems k l.rest → FoundElems k (w ++ (b ∷ r))
next_elem k w b r w-is f l c more = record {
  elems = elem f.tree more.elems;
  bytes = w ++ (f.bytes ++ (l.front ++ (44 ∷ more.bytes)));
  rest = more.rest;
  cut =
      ap (λ x. w ++ x) (f.cut ∙ ap (λ x. f.bytes ++ x) (l.cut ∙ (λ i. l.front ++ (eqb-true l.here 44 c i ∷ more.cut i)) ∙ sym (append_assoc l.front (44 ∷ more.bytes) (93 ∷ more.rest))))
      ∙ sym (split_element w f.bytes (l.front ++ (44 ∷ more.bytes)) (93 ∷ more.rest));
  is = next_element w-is f.is l.is more.is;
  on = more.on;
  short = omega (arith, f.short, l.short, more.short, length-append w (b ∷ r));
}

-- a member up to its value: white space, name, white space, colon, white space
record Named (k : List Kind) (s : List ℕ) : Type 0 where
  name_of : List ℕ
  before : List ℕ
  behind : List ℕ
  here : ℕ
  rest : List ℕ
  cut : s ≡ name_of ++ (34 ∷ (before ++ (58 ∷ (behind ++ (here ∷ rest)))))
  is : Chars name_of
  before_is : White before
  behind_is : White behind
  on : Acc (start (obj ∷ k) here) rest
  short : length rest < length s

named : (k : List Kind) (s : List ℕ) → Acc (live (chars true) (obj ∷ k)) s → Named k s
named k s h =
    let q = chars_cut true (obj ∷ k) s h in
    let l = led white (live colon (obj ∷ k)) (λ b. cond (eqb b 58) (live value (obj ∷ k)) dead) (λ b. refl) refl q.rest q.on in
    let c = by_last l.rest (eqb l.here 58) (live value (obj ∷ k)) l.on in
    let v = led_value (obj ∷ k) l.rest c.1 in
    record {
      name_of = q.front;
      before = l.front;
      behind = v.front;
      here = v.here;
      rest = v.rest;
      cut = q.cut ∙ ap (λ x. q.front ++ (34 ∷ x)) (l.cut ∙ (λ i. l.front ++ (eqb-true l.here 58 c.0 i ∷ v.cut i)));
      is = q.is;
      before_is = l.is;
      behind_is = v.is;
      on = v.on;
      short = omega (arith, q.short, l.short, v.short);
    }

last_memb : (k : List Kind) (u s : List ℕ) → White u → (m : Named k s) → (f : Found (obj ∷ k) (m.here ∷ m.rest)) → (l : Led white (after_memb k) f.rest) → eqb l.here 125 ≡ true → On k l.rest → FoundMembs k (u ++ (34 ∷ s))
last_memb k u s u-is m f l c on = record {
  membs = memb m.name_of f.tree no_memb;
  bytes = u ++ (34 ∷ (m.name_of ++ (34 ∷ (m.before ++ (58 ∷ (m.behind ++ (f.bytes ++ l.front)))))));
  rest = l.rest;
  cut =
      ap (λ x. u ++ (34 ∷ x)) (m.cut ∙ ap (λ x. m.name_of ++ (34 ∷ (m.before ++ (58 ∷ (m.behind ++ x))))) (f.cut ∙ ap (λ x. f.bytes ++ x) (l.cut ∙ ap (λ x. l.front ++ (x ∷ l.rest)) (eqb-true l.here 125 c))))
      ∙ sym (split_member u m.name_of m.before m.behind f.bytes l.front (125 ∷ l.rest));
  is = last_member u-is m.is m.before_is m.behind_is f.is l.is;
  on = on;
  short = omega (arith, m.short, f.short, l.short, length-append u (34 ∷ s));
}

next_memb : (k : List Kind) (u s : List ℕ) → White u → (m : Named k s) → (f : Found (obj ∷ k) (m.here ∷ m.rest)) → (l : Led white (after_memb k) f.rest) → eqb l.here 44 ≡ true → FoundMembs k l.rest → FoundMembs k (u ++ (34 ∷ s))
next_memb k u s u-is m f l c more = record {
  membs = memb m.name_of f.tree more.membs;
  bytes = u ++ (34 ∷ (m.name_of ++ (34 ∷ (m.before ++ (58 ∷ (m.behind ++ (f.bytes ++ (l.front ++ (44 ∷ more.bytes)))))))));
  rest = more.rest;
  cut =
      ap (λ x. u ++ (34 ∷ x)) (m.cut ∙ ap (λ x. m.name_of ++ (34 ∷ (m.before ++ (58 ∷ (m.behind ++ x))))) (f.cut ∙ ap (λ x. f.bytes ++ x) (l.cut ∙ (λ i. l.front ++ (eqb-true l.here 44 c i ∷ more.cut i)) ∙ sym (append_assoc l.front (44 ∷ more.bytes) (125 ∷ more.rest)))))
      ∙ sym (split_member u m.name_of m.before m.behind f.bytes (l.front ++ (44 ∷ more.bytes)) (125 ∷ more.rest));
  is = next_member u-is m.is m.before_is m.behind_is f.is l.is more.is;
  on = more.on;
  short = omega (arith, m.short, f.short, l.short, more.short, length-append u (34 ∷ s));
}

whole_array : (k : List Kind) (s : List ℕ) → FoundElems k s → Found k (91 ∷ s)
whole_array k s e = record {
  tree = jarray e.elems;
  bytes = 91 ∷ (e.bytes ++ (93 ∷ []));
  rest = e.rest;
  cut = ap (λ x. 91 ∷ x) (e.cut ∙ sym (append_assoc e.bytes (93 ∷ []) e.rest));
  is = is_array e.is;
  on = e.on;
  short = omega (arith, e.short);
}

whole_object : (k : List Kind) (s : List ℕ) → FoundMembs k s → Found k (123 ∷ s)
whole_object k s m = record {
  tree = jobject m.membs;
  bytes = 123 ∷ (m.bytes ++ (125 ∷ []));
  rest = m.rest;
  cut = ap (λ x. 123 ∷ x) (m.cut ∙ sym (append_assoc m.bytes (125 ∷ []) m.rest));
  is = is_object m.is;
  on = m.on;
  short = omega (arith, m.short);
}

-- n bounds how deep the calls go: three for each byte that is left
mutual
  start_cut : (n : ℕ) (k : List Kind) (b : ℕ) (s : List ℕ) → 3 * length s + 2 < n → Acc (start k b) s → Found k (b ∷ s)
  start_cut zero k b s lt h = absurd (omega arith)
  start_cut (suc n) k b s lt h =
      ⊎_elim (λ p. at b 34 p.0 (found_string k s p.1))
      (λ r1. ⊎_elim (λ p. at b 91 p.0 (array_cut n k s (omega arith) p.1))
      (λ r2. ⊎_elim (λ p. at b 123 p.0 (object_cut n k s (omega arith) p.1))
      (λ r3. ⊎_elim (λ p. at b 45 p.0 (found_minus k s p.1))
      (λ r4. ⊎_elim (λ p. at b 48 p.0 (found_zero k [] s no_minus p.1))
      (λ r5. ⊎_elim (λ p. found_whole k [] b s no_minus p.0 p.1)
      (λ r6. ⊎_elim (λ p. at b 116 p.0 (found_literal k jtrue 116 114 (117 ∷ 101 ∷ []) s is_true (literal_cut k 114 (117 ∷ 101 ∷ []) s p.1)))
      (λ r7. ⊎_elim (λ p. at b 102 p.0 (found_literal k jfalse 102 97 (108 ∷ 115 ∷ 101 ∷ []) s is_false (literal_cut k 97 (108 ∷ 115 ∷ 101 ∷ []) s p.1)))
      (λ r8. let p = by_last s (eqb b 110) (live (literal 117 (108 ∷ 108 ∷ [])) k) r8.1 in at b 110 p.0 (found_literal k jnull 110 117 (108 ∷ 108 ∷ []) s is_null (literal_cut k 117 (108 ∷ 108 ∷ []) s p.1)))
      (by_test s (eqb b 102) _ _ r7.1))
      (by_test s (eqb b 116) _ _ r6.1))
      (by_test s (nonzero b) _ _ r5.1))
      (by_test s (eqb b 48) _ _ r4.1))
      (by_test s (eqb b 45) _ _ r3.1))
      (by_test s (eqb b 123) _ _ r2.1))
      (by_test s (eqb b 91) _ _ r1.1))
      (by_test s (eqb b 34) _ _ h)
    where
      at : (b c : ℕ) → eqb b c ≡ true → Found k (c ∷ s) → Found k (b ∷ s)
      at b c t f = subst (λ x. Found k (x ∷ s)) (sym (eqb-true b c t)) f

  -- after an opening bracket
  array_cut : (n : ℕ) (k : List Kind) (s : List ℕ) → 3 * length s + 1 < n → Acc (live first (arr ∷ k)) s → Found k (91 ∷ s)
  array_cut zero k s lt h = absurd (omega arith)
  array_cut (suc n) k s lt h =
      let l = led white (live first (arr ∷ k)) (λ b. cond (eqb b 93) (live after k) (start (arr ∷ k) b)) (λ b. refl) refl s h in
      ⊎_elim
      (λ p. record {
        tree = jarray no_elem;
        bytes = 91 ∷ (l.front ++ (93 ∷ []));
        rest = l.rest;
        cut = ap (λ x. 91 ∷ x) (l.cut ∙ ap (λ x. l.front ++ (x ∷ l.rest)) (eqb-true l.here 93 p.0) ∙ sym (append_assoc l.front (93 ∷ []) l.rest));
        is = empty_array l.is;
        on = p.1;
        short = omega (arith, l.short);
      })
      (λ r. whole_array k s (subst (FoundElems k) (sym l.cut) (elements_cut n k l.front l.here l.rest (omega (arith, l.short)) l.is r.1)))
      (by_test l.rest (eqb l.here 93) _ _ l.on)

  -- values from one that begins at b
  elements_cut : (n : ℕ) (k : List Kind) (w : List ℕ) (b : ℕ) (r : List ℕ) → 3 * length r + 3 < n → White w → Acc (start (arr ∷ k) b) r → FoundElems k (w ++ (b ∷ r))
  elements_cut zero k w b r lt w-is h = absurd (omega arith)
  elements_cut (suc n) k w b r lt w-is h =
      let f = start_cut n (arr ∷ k) b r (omega arith) h in
      let l = led_elem k f.rest f.on in
      ⊎_elim
      (λ p.
      let v = led_value (arr ∷ k) l.rest p.1 in
      next_elem k w b r w-is f l p.0 (subst (FoundElems k) (sym v.cut) (elements_cut n k v.front v.here v.rest (omega (arith, f.short, l.short, v.short)) v.is v.on)))
      (λ q. let p = by_last l.rest (eqb l.here 93) (live after k) q.1 in last_elem k w b r w-is f l p.0 p.1)
      (by_test l.rest (eqb l.here 44) _ _ l.on)

  -- after an opening brace
  object_cut : (n : ℕ) (k : List Kind) (s : List ℕ) → 3 * length s + 1 < n → Acc (live opened (obj ∷ k)) s → Found k (123 ∷ s)
  object_cut zero k s lt h = absurd (omega arith)
  object_cut (suc n) k s lt h =
      let l = led white (live opened (obj ∷ k)) (λ b. cond (eqb b 125) (live after k) (cond (eqb b 34) (live (chars true) (obj ∷ k)) dead)) (λ b. refl) refl s h in
      ⊎_elim
      (λ p. record {
        tree = jobject no_memb;
        bytes = 123 ∷ (l.front ++ (125 ∷ []));
        rest = l.rest;
        cut = ap (λ x. 123 ∷ x) (l.cut ∙ ap (λ x. l.front ++ (x ∷ l.rest)) (eqb-true l.here 125 p.0) ∙ sym (append_assoc l.front (125 ∷ []) l.rest));
        is = empty_object l.is;
        on = p.1;
        short = omega (arith, l.short);
      })
      (λ q.
      let p = by_last l.rest (eqb l.here 34) (live (chars true) (obj ∷ k)) q.1 in
      whole_object k s (subst (FoundMembs k) (sym (l.cut ∙ ap (λ x. l.front ++ (x ∷ l.rest)) (eqb-true l.here 34 p.0))) (members_cut n k l.front l.rest (omega (arith, l.short)) l.is p.1)))
      (by_test l.rest (eqb l.here 125) _ _ l.on)

  -- members from one whose name has been opened
  members_cut : (n : ℕ) (k : List Kind) (u s : List ℕ) → 3 * length s + 3 < n → White u → Acc (live (chars true) (obj ∷ k)) s → FoundMembs k (u ++ (34 ∷ s))
  members_cut zero k u s lt u-is h = absurd (omega arith)
  members_cut (suc n) k u s lt u-is h =
      let m = named k s h in
      let f = start_cut n (obj ∷ k) m.here m.rest (omega (arith, m.short)) m.on in
      let l = led_memb k f.rest f.on in
      ⊎_elim
      (λ p.
      let v = led white (live name (obj ∷ k)) (λ b. cond (eqb b 34) (live (chars true) (obj ∷ k)) dead) (λ b. refl) refl l.rest p.1 in
      let q = by_last v.rest (eqb v.here 34) (live (chars true) (obj ∷ k)) v.on in
      next_memb k u s u-is m f l p.0 (subst (FoundMembs k) (sym (v.cut ∙ ap (λ x. v.front ++ (x ∷ v.rest)) (eqb-true v.here 34 q.0))) (members_cut n k v.front v.rest (omega (arith, m.short, f.short, l.short, v.short)) v.is q.1)))
      (λ q. let p = by_last l.rest (eqb l.here 125) (live after k) q.1 in last_memb k u s u-is m f l p.0 p.1)
      (by_test l.rest (eqb l.here 44) _ _ l.on)

-- an accepted text is a text of some value
pub accepted_text : (bs : List ℕ) → accepts (run begin bs) ≡ true → (t : Json) × Text t bs
accepted_text bs h =
    let l = led_value [] bs h in
    let f = start_cut (3 * length l.rest + 3) [] l.here l.rest (omega arith) l.on in
    let whole-text = l.cut ∙ ap (λ x. l.front ++ x) f.cut in
    (f.tree, subst (Text f.tree) (sym whole-text) (text l.is f.is (only_white f.rest f.on)))
  where
    only_white : (s : List ℕ) → On [] s → White s
    only_white s h = ⊎_elim (λ all. all.0) (λ l. absurd (not_dead l.rest l.on)) (led_or_all white (live after []) (λ _. dead) (λ b. refl) s h)
