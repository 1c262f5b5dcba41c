-- No beginning of a compact text is nested deeper than its tree is high. Assumes nothing.
use Rattle.std.proofs.Common.{◌≡◌, ℕ, zero, suc, ◌+◌, ◌≤◌, max, Bool, true, not, ◌&&◌, eqb, List, [], ◌∷◌, ◌++◌, take, codes, sym, refl, ap, subst, subst₂, append_assoc, append-nil, arith}
use Rattle.std.proofs.lemmas.Bool.Decides.{nat_tests}
use Rattle.frame.specs.Walks.{quoted}
use Rattle.frame_writer.proofs.Values.{Sound, SoundMembers, SoundValues}
use Rattle.frame_writer.specs.Compact.{compact, members, other_members, other_values, values}
use Rattle.json_text.proofs.Unique.{number_numeric, numeric}
use Rattle.json_text.specs.Beginnings.{Spot, deeper, depth, depth_from, past}
use Rattle.json_text.specs.Beginnings.Spot.{outside, inside}
use Rattle.json_text.specs.Grammar.{Chars, Each, Elems, Json, Membs, hex}
use Rattle.json_text.specs.Grammar.Chars.{no_char, char, escape, unicode}
use Rattle.json_text.specs.Grammar.Each.{no_byte, byte}
use Rattle.json_text.specs.Grammar.Elems.{no_elem, elem}
use Rattle.json_text.specs.Grammar.Json.{jnull, jtrue, jfalse, jnumber, jstring, jarray, jobject}
use Rattle.json_text.specs.Grammar.Membs.{no_memb, memb}

-- how many arrays and objects stand in one another
abbrev mutual
  pub height : Json → ℕ
  height jnull = 0
  height jtrue = 0
  height jfalse = 0
  height (jnumber n) = 0
  height (jstring s) = 0
  height (jarray es) = suc (values_height es)
  height (jobject ms) = suc (members_height ms)

  pub values_height : Elems → ℕ
  values_height no_elem = 0
  values_height (elem e es) = max (height e) (values_height es)

  pub members_height : Membs → ℕ
  members_height no_memb = 0
  members_height (memb n e ms) = max (height e) (members_height ms)

-- no beginning is deeper than h
abbrev Below : ℕ → Spot → ℕ → List ℕ → Type 0
Below h spot d [] = d ≤ h
Below h spot d (b ∷ bs) = (d ≤ h) × Below h (past spot b) (deeper spot d b) bs

below_take : (h : ℕ) (spot : Spot) (d : ℕ) (bs : List ℕ) (n : ℕ) → Below h spot d bs → depth_from spot d (take n bs) ≤ h
below_take h spot d [] zero below = below
below_take h spot d [] (suc n) below = below
below_take h spot d (b ∷ bs) zero below = below.0
below_take h spot d (b ∷ bs) (suc n) below = below_take h (past spot b) (deeper spot d b) bs n below.1

-- the bytes take what is outside strings at most k deeper, and back
abbrev Over : ℕ → List ℕ → Type 0
Over k bs = (h d : ℕ) (s : List ℕ) → d + k ≤ h → Below h outside d s → Below h outside d (bs ++ s)

over_none : (k : ℕ) → Over k []
over_none k h d s fits below = below

over_append : (k : ℕ) (xs ys : List ℕ) → Over k xs → Over k ys → Over k (xs ++ ys)
over_append k xs ys front back h d s fits below =
    subst (Below h outside d) (sym (append_assoc xs ys s)) (front h d (ys ++ s) fits (back h d s fits below))

over_more : (j k : ℕ) (bs : List ℕ) → j ≤ k → Over j bs → Over k bs
over_more j k bs more over h d s fits below = over h d s (omega arith) below

-- no quote, bracket or brace
abbrev calm : ℕ → Bool
calm b = not (eqb b 34) && (not (eqb b 91) && (not (eqb b 123) && (not (eqb b 93) && not (eqb b 125))))

over_byte : (k b : ℕ) (bs : List ℕ) → calm b ≡ true → Over k bs → Over k (b ∷ bs)
over_byte k b bs t over h d s fits below =
    let p : outside ≡ past outside b = grind (arith, nat_tests) in
    let q : d ≡ deeper outside d b = grind (arith, nat_tests) in
    (omega arith, subst₂ (λ x y. Below h x y (bs ++ s)) p q (over h d s fits below))

over_calm : (k : ℕ) {bs : List ℕ} → Each calm bs → Over k bs
over_calm k no_byte = over_none k
over_calm k (byte {b} {bs} t more) = over_byte k b bs t (over_calm k more)

calm_numeric : {n : List ℕ} → Each numeric n → Each calm n
calm_numeric no_byte = no_byte
calm_numeric (byte {b} t more) = byte (let h : calm b ≡ true = grind (arith, nat_tests) in h) (calm_numeric more)

-- in a string nothing gets deeper
in_string : (h d : ℕ) (s : List ℕ) {cs : List ℕ} → d ≤ h → Chars cs → Below h outside d s → Below h inside d (cs ++ (34 ∷ s))
in_string h d s fits no_char below = (fits, below)
in_string h d s fits (char {b} {cs} t more) below =
    let p : inside ≡ past inside b = grind (arith, nat_tests) in
    (fits, subst (λ x. Below h x d (cs ++ (34 ∷ s))) p (in_string h d s fits more below))
in_string h d s fits (escape t more) below = (fits, (fits, in_string h d s fits more below))
in_string h d s fits (unicode {h = a} {i} {j} {k = l} {cs} ta ti tj tl more) below =
    let r = cs ++ (34 ∷ s) in
    (fits, (fits, step a (i ∷ j ∷ l ∷ r) ta (step i (j ∷ l ∷ r) ti (step j (l ∷ r) tj (step l r tl (in_string h d s fits more below))))))
  where
    step : (b : ℕ) (r : List ℕ) → hex b ≡ true → Below h inside d r → Below h inside d (b ∷ r)
    step b r t under = let p : inside ≡ past inside b = grind (arith, nat_tests) in (fits, subst (λ x. Below h x d r) p under)

over_string : (k : ℕ) {cs : List ℕ} → Chars cs → Over k (quoted cs)
over_string k {cs} cs-are h d s fits below =
    subst (Below h outside d) (ap (λ l. 34 ∷ l) (sym (append_assoc cs (34 ∷ []) s))) (omega arith, in_string h d s (omega arith) cs-are below)

-- what is opened, what is in it, and what closes it
over_array : (k : ℕ) (bs : List ℕ) → Over k bs → Over (suc k) (91 ∷ (bs ++ (93 ∷ [])))
over_array k bs over h d s fits below =
    subst (Below h outside d) (ap (λ l. 91 ∷ l) (sym (append_assoc bs (93 ∷ []) s)))
    (omega arith, over h (suc d) (93 ∷ s) (omega arith) (omega arith, below))

over_object : (k : ℕ) (bs : List ℕ) → Over k bs → Over (suc k) (123 ∷ (bs ++ (125 ∷ [])))
over_object k bs over h d s fits below =
    subst (Below h outside d) (ap (λ l. 123 ∷ l) (sym (append_assoc bs (125 ∷ []) s)))
    (omega arith, over h (suc d) (125 ∷ s) (omega arith) (omega arith, below))

null_calm : Each calm (codes "null")
null_calm = byte refl (byte refl (byte refl (byte refl no_byte)))

true_calm : Each calm (codes "true")
true_calm = byte refl (byte refl (byte refl (byte refl no_byte)))

false_calm : Each calm (codes "false")
false_calm = byte refl (byte refl (byte refl (byte refl (byte refl no_byte))))

mutual
  over_value : (t : Json) → Sound t → Over (height t) (compact t)
  over_value jnull s = over_calm 0 null_calm
  over_value jtrue s = over_calm 0 true_calm
  over_value jfalse s = over_calm 0 false_calm
  over_value (jnumber n) s = over_calm 0 (calm_numeric (number_numeric s))
  over_value (jstring cs) s = over_string 0 s
  over_value (jarray es) s = over_array (values_height es) (values es) (over_values es s)
  over_value (jobject ms) s = over_object (members_height ms) (members ms) (over_members ms s)

  over_values : (es : Elems) → SoundValues es → Over (values_height es) (values es)
  over_values no_elem s = over_none 0
  over_values (elem e es) s =
      let k = max (height e) (values_height es) in
      over_append k (compact e) (other_values es) (over_more (height e) k (compact e) (omega arith) (over_value e s.0))
      (over_more (values_height es) k (other_values es) (omega arith) (over_other_values es s.1))

  over_other_values : (es : Elems) → SoundValues es → Over (values_height es) (other_values es)
  over_other_values no_elem s = over_none 0
  over_other_values (elem e es) s =
      let k = max (height e) (values_height es) in
      over_byte k 44 (compact e ++ other_values es) refl
      (over_append k (compact e) (other_values es) (over_more (height e) k (compact e) (omega arith) (over_value e s.0))
      (over_more (values_height es) k (other_values es) (omega arith) (over_other_values es s.1)))

  over_members : (ms : Membs) → SoundMembers ms → Over (members_height ms) (members ms)
  over_members no_memb s = over_none 0
  over_members (memb n e ms) s =
      let k = max (height e) (members_height ms) in
      over_append k (quoted n) (58 ∷ (compact e ++ other_members ms)) (over_string k s.0)
      (over_byte k 58 (compact e ++ other_members ms) refl
      (over_append k (compact e) (other_members ms) (over_more (height e) k (compact e) (omega arith) (over_value e s.1.0))
      (over_more (members_height ms) k (other_members ms) (omega arith) (over_other_members ms s.1.1))))

  over_other_members : (ms : Membs) → SoundMembers ms → Over (members_height ms) (other_members ms)
  over_other_members no_memb s = over_none 0
  over_other_members (memb n e ms) s =
      let k = max (height e) (members_height ms) in
      over_byte k 44 (quoted n ++ (58 ∷ (compact e ++ other_members ms))) refl
      (over_append k (quoted n) (58 ∷ (compact e ++ other_members ms)) (over_string k s.0)
      (over_byte k 58 (compact e ++ other_members ms) refl
      (over_append k (compact e) (other_members ms) (over_more (height e) k (compact e) (omega arith) (over_value e s.1.0))
      (over_more (members_height ms) k (other_members ms) (omega arith) (over_other_members ms s.1.1)))))

pub compact_depth : (t : Json) → Sound t → (n : ℕ) → depth (take n (compact t)) ≤ height t
compact_depth t s n =
    below_take (height t) outside 0 (compact t) n
    (subst (Below (height t) outside 0) (append-nil (compact t)) (over_value t s (height t) 0 [] (omega arith) (omega arith)))
