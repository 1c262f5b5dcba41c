-- The front of what is left of an object or an array. Assumes nothing.
use Rattle.std.proofs.Common.{◌≡◌, ℕ, suc, ◌<◌, ◌≤◌, Bool, true, false, cond, eqb, ◌⊎◌, List, [], ◌∷◌, ◌++◌, length, get_or, drop, IfSome, Some, None, Option, sym, refl, ap, ◌∙◌, subst, inl, inr, append_assoc, append-nil, arith, Bor, MatchOption}
use Rattle.frame.specs.Kinds.{At}
use Rattle.frame.specs.Walks.{AheadIn, Begins, Behind, BehindIn, LeftIn, Opened}
use Rattle.frame.proofs.Openings.{opening, opens}
use Rattle.json_text.specs.Grammar.Each.{no_byte}
use Rattle.std.proofs.lemmas.Bool.{eqb-false, false≢true}
use Rattle.json_text.proofs.Complete.{split_element, split_member}
use Rattle.json_text.proofs.Unique.{no_bracket, skip_white, stands, white_follows}
use Rattle.json_text.specs.Grammar.{Chars, Elements, Elems, Json, Members, Membs, Value, White, white}
use Rattle.json_text.specs.Grammar.Elements.{last_element, next_element}
use Rattle.json_text.specs.Grammar.Elems.{no_elem, elem}
use Rattle.json_text.specs.Grammar.Json.{jarray, jobject}
use Rattle.json_text.specs.Grammar.Value.{empty_array, empty_object, is_array, is_object}
use Rattle.json_text.specs.Grammar.Members.{last_member, next_member}
use Rattle.json_text.specs.Grammar.Membs.{no_memb, memb}
use Rattle.json_text.specs.Parts.{Follows, Split, skip}
use Rattle.json_text.specs.Parts.Follows.{ends}

pub skip_short : (s : List ℕ) → length (skip s) ≤ length s
skip_short [] = omega arith
skip_short (b ∷ s) = go (white b) (skip_short s)
  where
    go : (t : Bool) → length (skip s) ≤ length s → length (cond t (skip s) (b ∷ s)) ≤ suc (length s)
    go true short = omega (arith, short)
    go false short = omega arith

pub shorter_from : (o : Option (Bor (List ℕ))) (m n : ℕ) → m ≤ n → IfSome o (λ x. length x.now < m) → IfSome o (λ x. length x.now < n)
shorter_from None m n h s = tt
shorter_from (Some x) m n h s = omega arith

-- the first member, and what follows its name
pub record Front (ms : Membs) (s end : List ℕ) : Type 0 where
  pub called : List ℕ
  pub tree : Json
  pub others : Membs
  pub is : ms ≡ memb called tree others
  pub colon : List ℕ
  pub after_colon : List ℕ
  pub behind : List ℕ
  pub name_front : skip s ≡ 34 ∷ (called ++ (34 ∷ colon))
  pub chars : Chars called
  pub colon_front : skip colon ≡ 58 ∷ after_colon
  pub value : Begins tree (skip after_colon) behind
  pub more : Behind others behind end

front_of : (ms : Membs) (u n y w v X : List ℕ) (e : Json) (others : Membs) (s end : List ℕ) → s ≡ u ++ (34 ∷ (n ++ (34 ∷ (y ++ (58 ∷ (w ++ (v ++ X))))))) → ms ≡ memb n e others → White u → Chars n → White y → White w → Value e v → Follows X
    → Behind others X end → Front ms s end
front_of ms u n y w v X e others s end whole is u-is n-is y-is w-is v-is on more = record {
  called = n;
  tree = e;
  others = others;
  is = is;
  colon = y ++ (58 ∷ (w ++ (v ++ X)));
  after_colon = w ++ (v ++ X);
  behind = X;
  name_front = ap skip whole ∙ skip_white (34 ∷ (n ++ (34 ∷ (y ++ (58 ∷ (w ++ (v ++ X))))))) u-is;
  chars = n-is;
  colon_front = skip_white (58 ∷ (w ++ (v ++ X))) y-is;
  value = record { value = v; whole = stands X w-is v-is; is = v-is; on = on };
  more = more;
}

pub front : (ms : Membs) (bs end s : List ℕ) → s ≡ bs ++ (125 ∷ end) → Members ms bs → Front ms s end
front ms bs end s whole (last_member {n} {e} {u} {y} {w} {v} {x} u-is n-is y-is w-is v-is x-is) =
    front_of _ u n y w v (x ++ (125 ∷ end)) e no_memb s end (whole ∙ split_member u n y w v x (125 ∷ end)) refl u-is n-is y-is w-is v-is (white_follows 125 end x-is refl)
    (inl (refl, skip_white (125 ∷ end) x-is))
front ms bs end s whole (next_member {n} {e} {u} {y} {w} {v} {x} {ms = others} {bs = more} u-is n-is y-is w-is v-is x-is rest-are) =
    front_of _ u n y w v (x ++ (44 ∷ (more ++ (125 ∷ end)))) e others s end
    (whole ∙ split_member u n y w v (x ++ (44 ∷ more)) (125 ∷ end) ∙ ap (λ l. u ++ (34 ∷ (n ++ (34 ∷ (y ++ (58 ∷ (w ++ (v ++ l)))))))) (append_assoc x (44 ∷ more) (125 ∷ end)))
    refl u-is n-is y-is w-is v-is (white_follows 44 (more ++ (125 ∷ end)) x-is refl)
    (inr (more ++ (125 ∷ end), skip_white (44 ∷ (more ++ (125 ∷ end))) x-is, record { bytes = more; whole = refl; is = rest-are }))

-- bytes have one first byte
pub two_firsts : (s : List ℕ) (a b : ℕ) (q r : List ℕ) → eqb a b ≡ false → s ≡ a ∷ q → s ≡ b ∷ r → ⊥
two_firsts s a b q r ne e f = let z : a ≡ b = ap (λ l. get_or l 0 0) (sym e ∙ f) in omega (arith, z, eqb-false a b ne)

-- the value at the front, as it is split off
pub split_of : {tree : Json} {s behind : List ℕ} → (b : Begins tree s behind) → Split s b.value behind
split_of {tree} b = record { tree = tree; whole = b.whole; is = b.is; on = b.on }

-- it has no white space before it
pub skipped : {t : Json} {s behind : List ℕ} → Begins t s behind → Begins t (skip s) behind
skipped {behind} b = record { value = b.value; whole = ap skip b.whole ∙ stands {w = []} behind no_byte b.is; is = b.is; on = b.on }

-- its first byte is its own
pub opens_with : (t : Json) (s behind : List ℕ) (b : ℕ) (rest : List ℕ) → Begins t s behind → s ≡ b ∷ rest → opening t b ≡ true
opens_with t s behind b rest begins e =
    subst (λ x. opening t x ≡ true) (ap (λ l. get_or l 0 0) (sym begins.whole ∙ e)) (opens behind begins.is)

opened_value : (ms : Membs) (v r inner : List ℕ) → Value (jobject ms) v → v ++ r ≡ 123 ∷ inner → Opened ms inner r
opened_value ms v r inner (empty_object {w} w-is) e = inl (refl, ap skip (sym (ap (drop 1) e) ∙ append_assoc w (125 ∷ []) r) ∙ skip_white (125 ∷ r) w-is)
opened_value ms v r inner (is_object {bs} ms-are) e = inr (record { bytes = bs; whole = sym (ap (drop 1) e) ∙ append_assoc bs (125 ∷ []) r; is = ms-are })

-- what stands after the brace of an object
pub opened : (tree : Json) (ms : Membs) (s behind inner : List ℕ) → Begins tree s behind → tree ≡ jobject ms → s ≡ 123 ∷ inner → Opened ms inner behind
opened tree ms s behind inner b is brace =
    opened_value ms b.value behind inner (subst (λ t. Value t b.value) is b.is) (sym b.whole ∙ brace)

brace_of : (ms : Membs) (v r : List ℕ) → Value (jobject ms) v → (inner : List ℕ) × (v ++ r ≡ 123 ∷ inner)
brace_of ms v r (empty_object {w} w-is) = ((w ++ (125 ∷ [])) ++ r, refl)
brace_of ms v r (is_object {bs} ms-are) = ((bs ++ (125 ∷ [])) ++ r, refl)

-- an object has a brace
pub braced : (tree : Json) (ms : Membs) (s behind : List ℕ) → Begins tree s behind → tree ≡ jobject ms → (inner : List ℕ) × (s ≡ 123 ∷ inner)
braced tree ms s behind b is =
    let i = brace_of ms b.value behind (subst (λ t. Value t b.value) is b.is) in (i.0, b.whole ∙ i.1)

-- the first value of what is left of an array, and what follows it
pub record FrontIn (es : Elems) (s end : List ℕ) : Type 0 where
  pub tree : Json
  pub others : Elems
  pub is : es ≡ elem tree others
  pub behind : List ℕ
  pub value : Begins tree (skip s) behind
  pub more : BehindIn others behind end

pub front_in : (es : Elems) (bs end s : List ℕ) → s ≡ bs ++ (93 ∷ end) → Elements es bs → FrontIn es s end
front_in es bs end s whole (last_element {e} {w} {v} {x} w-is v-is x-is) = record {
  tree = e;
  others = no_elem;
  is = refl;
  behind = x ++ (93 ∷ end);
  value = record {
    value = v;
    whole = ap skip (whole ∙ split_element w v x (93 ∷ end)) ∙ stands (x ++ (93 ∷ end)) w-is v-is;
    is = v-is;
    on = white_follows 93 end x-is refl;
  };
  more = inl (refl, skip_white (93 ∷ end) x-is);
}
front_in es bs end s whole (next_element {e} {w} {v} {x} {es = others} {bs = more} w-is v-is x-is rest-are) = record {
  tree = e;
  others = others;
  is = refl;
  behind = x ++ (44 ∷ (more ++ (93 ∷ end)));
  value = record {
    value = v;
    whole =
        ap skip (whole ∙ split_element w v (x ++ (44 ∷ more)) (93 ∷ end) ∙ ap (λ l. w ++ (v ++ l)) (append_assoc x (44 ∷ more) (93 ∷ end)))
        ∙ stands (x ++ (44 ∷ (more ++ (93 ∷ end)))) w-is v-is;
    is = v-is;
    on = white_follows 44 (more ++ (93 ∷ end)) x-is refl;
  };
  more = inr (more ++ (93 ∷ end), skip_white (44 ∷ (more ++ (93 ∷ end))) x-is, record { bytes = more; whole = refl; is = rest-are });
}

-- what a look for the comma found
pub more_in : (others : Elems) (b behind end : List ℕ) (o : Option (Bor (List ℕ))) → b ≡ behind
    → MatchOption o ((rest : List ℕ) → skip b ≡ 44 ∷ rest → ⊥) (λ x. skip b ≡ 44 ∷ x.now)
    → BehindIn others behind end → LeftIn others end o
more_in others b behind end None e found (inl (none, close)) = none
more_in others b behind end None e found (inr (rest, comma, ahead)) = absurd (found rest (ap skip e ∙ comma))
more_in others b behind end (Some x) e found (inl (none, close)) = absurd (two_firsts _ 93 44 end x.now refl close (sym (ap skip e) ∙ found))
more_in others b behind end (Some x) e found (inr (rest, comma, ahead)) =
    subst (λ l. AheadIn others l end) (ap (drop 1) (sym comma ∙ sym (ap skip e) ∙ found)) ahead

-- what stands after the bracket of an array
pub record InsideArray (es : Elems) (s end : List ℕ) : Type 0 where
  pub inner : List ℕ
  pub bracket : skip s ≡ 91 ∷ inner
  pub holds : ((es ≡ no_elem) × (skip inner ≡ 93 ∷ end)) ⊎ (AheadIn es inner end × ((rest : List ℕ) → skip inner ≡ 93 ∷ rest → ⊥))

inside_value : (es : Elems) (s v r : List ℕ) → skip s ≡ v ++ r → Value (jarray es) v → InsideArray es s r
inside_value es s v r e (empty_array {w} w-is) =
    record { inner = (w ++ (93 ∷ [])) ++ r; bracket = e; holds = inl (refl, ap skip (append_assoc w (93 ∷ []) r) ∙ skip_white (93 ∷ r) w-is) }
inside_value es s v r e (is_array {bs} es-are) = record {
  inner = (bs ++ (93 ∷ [])) ++ r;
  bracket = e;
  holds = inr (
    record { bytes = bs; whole = append_assoc bs (93 ∷ []) r; is = es-are },
    λ rest h.
        let f = front_in es bs r ((bs ++ (93 ∷ [])) ++ r) (append_assoc bs (93 ∷ []) r) es-are in
        no_bracket f.value.is f.behind rest (sym f.value.whole ∙ h),
  );
}

pub inside_array : (tree : Json) (es : Elems) (s : List ℕ) (at : At tree s) → tree ≡ jarray es → InsideArray es s at.behind
inside_array tree es s at is =
    inside_value es s at.value at.behind (ap skip at.whole ∙ stands at.behind at.white at.is) (subst (λ t. Value t at.value) is at.is)

pub inside_begun : (tree : Json) (es : Elems) (s behind : List ℕ) → Begins tree s behind → tree ≡ jarray es → InsideArray es s behind
unfolding skipped
inside_begun tree es s behind b is = inside_value es s b.value behind (skipped b).whole (subst (λ t. Value t b.value) is b.is)

-- the first byte after white space is the value's
pub opens_at : (t : Json) (s : List ℕ) (b : ℕ) (rest : List ℕ) → At t s → skip s ≡ b ∷ rest → opening t b ≡ true
opens_at t s b rest at e =
    let same : skip s ≡ at.value ++ at.behind = ap skip at.whole ∙ stands at.behind at.white at.is in
    subst (λ x. opening t x ≡ true) (ap (λ l. get_or l 0 0) (sym same ∙ e)) (opens at.behind at.is)

abbrev none_in : Elems → Bool
none_in no_elem = true
none_in (elem e es) = false

pub some_elem : (e : Json) (es : Elems) → elem e es ≡ no_elem → ⊥
some_elem e es h = false≢true (ap none_in h)

-- bytes that are a value begin with it
pub alone : (t : Json) (v : List ℕ) → Value t v → Begins t v []
alone t v v-is = record { value = v; whole = sym (append-nil v); is = v-is; on = ends }
