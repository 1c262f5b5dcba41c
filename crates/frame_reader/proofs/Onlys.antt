-- The values that are read, by the trees. Assumes nothing.
use Rattle.std.proofs.Common.{◌≡◌, ℕ, ◌≤◌, Bool, true, false, List, IfSome, Some, None, Ok, Err, codes, Option, Result, sym, refl, ap, ◌∙◌, subst, arith, Bor, MatchOption}
use Rattle.frame_reader.specs.Fields.{ElementFinds, IdIn, IdOf, MeterFinds, OnlyFinds, SampleFinds, SampledFinds, UnderIf, ValueIf, only_object}
use Rattle.frame_reader.specs.Frame.{NamedMeter, NamedSample}
use Rattle.frame.specs.Slots.{Bytes, Under}
use Rattle.frame_reader.specs.declared.fields.Sample.{Sample}
use Rattle.frame_reader.specs.Members.{chain, element_under}
use Rattle.frame.specs.Members.{members_of, only_of, under}
use Rattle.frame_reader.specs.Walks.{NoObject}
use Rattle.frame.proofs.Fours.{size}
use Rattle.json_text.specs.Grammar.{Elems, Json, Membs}
use Rattle.json_text.specs.Grammar.Elems.{no_elem, elem}
use Rattle.json_text.specs.Grammar.Json.{jnull, jtrue, jfalse, jnumber, jstring, jarray, jobject}
use Rattle.refusal.specs.declared.Refusal.{Refusal}
use Rattle.std.proofs.lemmas.Bool.{false≢true}

pub no_members : (a : Json) → ((ms : Membs) → a ≡ jobject ms → ⊥) → members_of a ≡ None
no_members jnull h = refl
no_members jtrue h = refl
no_members jfalse h = refl
no_members (jnumber n) h = refl
no_members (jstring s) h = refl
no_members (jarray es) h = refl
no_members (jobject ms) h = absurd (h ms refl)

-- no array, or one that does not begin with an object
pub none_only : (tree : Json) → NoObject tree → only_object tree ≡ None
none_only jnull h = refl
none_only jtrue h = refl
none_only jfalse h = refl
none_only (jnumber n) h = refl
none_only (jstring s) h = refl
none_only (jarray no_elem) h = refl
none_only (jarray (elem e no_elem)) h = no_members e (λ ms is. h ms no_elem (ap (λ t. jarray (elem t no_elem)) is))
none_only (jarray (elem e (elem f es))) h = refl
none_only (jobject ms) h = refl

more_elems : (a : Json) (others : Elems) → 1 ≤ size others → only_of (jarray (elem a others)) ≡ None
more_elems a no_elem h = absurd (omega arith)
more_elems a (elem b es) h = refl

-- an array of more than one value
pub not_only : (tree a : Json) (others : Elems) → tree ≡ jarray (elem a others) → 1 ≤ size others → only_object tree ≡ None
not_only tree a others is h = ap (λ t. chain t members_of) (ap only_of is ∙ more_elems a others h)

-- an array of one object
pub the_only : (tree : Json) (ms : Membs) (others : Elems) → tree ≡ jarray (elem (jobject ms) others) → others ≡ no_elem → only_object tree ≡ Some ms
the_only tree ms others is none = ap only_object (is ∙ ap (λ es. jarray (elem (jobject ms) es)) none)

-- what holds of a value, where there is one
module _ {A : Type 0} (P : A → Type 0) where
  pub absent : {o : Option A} → o ≡ None → IfSome o P
  absent e = subst (λ o. IfSome o P) (sym e) tt

  pub present : {o : Option A} {a : A} → o ≡ Some a → P a → IfSome o P
  present e p = subst (λ o. IfSome o P) (sym e) p

  pub in_present : {o : Option A} {a : A} → o ≡ Some a → IfSome o P → P a
  in_present e p = subst (λ o. IfSome o P) e p

abbrev the : {A : Type 0} → A → Option A → A
the d None = d
the d (Some a) = a

pub same_some : {A : Type 0} {o : Option A} {a b : A} → o ≡ Some a → o ≡ Some b → a ≡ b
same_some {a = a} e f = ap (the a) (sym e ∙ f)

abbrev some : {A : Type 0} → Option A → Bool
some None = false
some (Some a) = true

pub not_both : {A : Type 0} {o : Option A} {a : A} → o ≡ None → o ≡ Some a → ⊥
not_both e f = false≢true (ap some (sym e ∙ f))

pub value_if : (name : List ℕ) (ms : Membs) (o : Option (Bor (List ℕ))) → UnderIf name ms o → ValueIf (under name ms) o
value_if name ms None e = subst (λ t. ValueIf t None) (sym e) tt
value_if name ms (Some v) u = subst (λ t. ValueIf t (Some v)) (sym u.is) u.bytes

pub in_id : (tree : Json) (o : Option (Bor (List ℕ))) (v : Bor (List ℕ)) → o ≡ Some v → IdOf tree o → IdIn tree v.now
in_id tree o v e h = subst (IdOf tree) e h

-- what is found in the only object of an array
module _ (finds : Membs → Result (Option Sample) Refusal → Type 0) (tree : Json) (r : Result (Option Sample) Refusal) where
  pub only_none : only_object tree ≡ None → r ≡ Ok None → OnlyFinds finds tree r
  only_none e h = subst (λ o. MatchOption o (r ≡ Ok None) (λ ms. finds ms r)) (sym e) h

  pub only_some : (ms : Membs) → only_object tree ≡ Some ms → finds ms r → OnlyFinds finds tree r
  only_some ms e h = subst (λ o. MatchOption o (r ≡ Ok None) (λ ms. finds ms r)) (sym e) h

-- the sample in a sampledValue
pub sampled_finds : (tree : Json) (r : Result (Option Sample) Refusal) → OnlyFinds SampleFinds tree r → SampledFinds tree r
sampled_finds tree r h = go (only_object tree) refl r h
  where
    go : (o : Option Membs) → only_object tree ≡ o → (r : Result (Option Sample) Refusal) → MatchOption o (r ≡ Ok None) (λ ms. SampleFinds ms r) → SampledFinds tree r
    go None e r h = subst (SampledFinds tree) (sym h) (absent NamedSample e, e)
    go (Some ms) e (Ok None) (named, none) = absurd none
    go (Some ms) e (Ok (Some s)) (named, of) = (present NamedSample e named, record { sample = ms; is = e; of = of })
    go (Some ms) e (Err why) (bad, not_named) = (bad, λ n. not_named (in_present NamedSample e n))

-- the sample in a meterValue of one object
pub meter_in : (tree : Json) (ms : Membs) (r : Result (Option Sample) Refusal) → only_object tree ≡ Some ms → ElementFinds ms r → MeterFinds tree r
meter_in tree ms (Ok None) is (named, none) =
    (present NamedMeter is named, λ meter sample m-is s-is. not_both none (subst (λ m. element_under (codes "sampledValue") m ≡ Some sample) (same_some m-is is) s-is))
meter_in tree ms (Ok (Some s)) is (named, i) =
    (present NamedMeter is named, record { meter = ms; sample = i.sample; meter_is = is; sample_is = i.is; of = i.of })
meter_in tree ms (Err why) is (bad, not_named) = (bad, λ n. not_named (in_present NamedMeter is n))

-- the same of any meterValue
pub meter_finds : (tree : Json) (r : Result (Option Sample) Refusal) → OnlyFinds ElementFinds tree r → MeterFinds tree r
meter_finds tree r h = go (only_object tree) refl h
  where
    go : (o : Option Membs) → only_object tree ≡ o → MatchOption o (r ≡ Ok None) (λ ms. ElementFinds ms r) → MeterFinds tree r
    go None e h = subst (MeterFinds tree) (sym h) (absent NamedMeter e, λ meter sample is is-too. not_both e is)
    go (Some ms) e h = meter_in tree ms r e h

-- the bytes under a name
pub to_under : (name : List ℕ) (ms : Membs) (v : Bor (List ℕ)) → ((tree : Json) × (under name ms ≡ Some tree) × Bytes tree v) → Under name ms v.now
to_under name ms v (tree, is, bytes) = record { tree = tree; is = is; bytes = bytes }

pub to_under_if : (name : List ℕ) (ms : Membs) (o : Option (Bor (List ℕ))) → MatchOption o (under name ms ≡ None) (λ v. (tree : Json) × (under name ms ≡ Some tree) × Bytes tree v) → UnderIf name ms o
to_under_if name ms None h = h
to_under_if name ms (Some v) h = to_under name ms v h
