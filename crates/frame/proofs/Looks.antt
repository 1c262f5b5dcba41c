-- A look for a name, member by member. Assumes nothing.
use Rattle.std.proofs.Common.{◌≡◌, ℕ, suc, ◌+◌, ◌<◌, ◌≤◌, Bool, true, false, List, [], ◌∷◌, length, drop, Some, None, Ok, Err, Option, Result, sym, refl, ap, ◌∙◌, subst, arith, Bor, MatchOption, MatchResult}
use Rattle.std.proofs.lemmas.Slice.Eq.{bytes_eq-Decides}
use Rattle.std.proofs.lemmas.List.{append_cancel_right}
use Rattle.std.proofs.lemmas.Bool.{cond-false, cond-true, true≢false}
use Rattle.frame.specs.Members.{count, under}
use Rattle.frame.specs.Lefts.{Shorter, bytes_of}
use Rattle.frame.specs.Slots.{Bytes, Found, Optional, Required, SoFar, added, optional_of, required_of}
use Rattle.frame.specs.Walks.{LeftOf, Opened, quoted}
use Rattle.std.specs.declared.ops.ControlFlow.{ControlFlow}
use Rattle.std.specs.declared.ops.ControlFlow.TheVariants.{Continue, Break}
use Rattle.frame.specs.declared.slot.Slot.{Slot}
use Rattle.frame.specs.declared.slot.Slot.TheVariants.{Missing, Once, Twice}
use Rattle.json_text.specs.Grammar.{Json, Membs}
use Rattle.json_text.specs.Grammar.Membs.{no_memb, memb}
use Rattle.refusal.specs.declared.Refusal.{Refusal}
use Rattle.refusal.specs.declared.Refusal.TheVariants.{BadMembers}
use Rattle.std.specs.Str.{bytes_eq}

pub same_true : (n called : List ℕ) → n ≡ called → bytes_eq n called ≡ true
same_true n called e = (bytes_eq-Decides n called).1 e

pub same_false : (n called : List ℕ) → (n ≡ called → ⊥) → bytes_eq n called ≡ false
same_false n called e = go (bytes_eq n called) refl
  where
    go : (t : Bool) → bytes_eq n called ≡ t → t ≡ false
    go true h = absurd (e ((bytes_eq-Decides n called).0 h))
    go false h = refl

-- how far a walk is
abbrev Left : Type 0
Left = ControlFlow (Bor (List ℕ)) (Bor (List ℕ))

-- a walk through an object from after its brace: how much is left, and what was found so far
abbrev pub Within : List ℕ → Left → Type 0
Within s left = length (bytes_of left).now ≤ length s

abbrev pub Walked : {A : Type 0} → (A → A → Membs → Membs → Type 0) → List ℕ → A → A → Left → Type 0
Walked {A} far s first found left =
    (start : A) (ms : Membs) (end : List ℕ) → Opened ms s end → far start first ms ms → (others : Membs) × LeftOf others end left × far start found ms others

abbrev pub left_length : Left → ℕ
left_length (Continue s) = suc (length s.now)
left_length (Break s) = 0

pub bytes_left : (left : Left) (n : ℕ) → Shorter left n → length (bytes_of left).now ≤ n
bytes_left (Continue s) n h = omega arith
bytes_left (Break s) n h = h

pub shorter_than : (left : Left) (m n : ℕ) → m ≤ n → Shorter left m → Shorter left n
shorter_than (Continue s) m n h short = omega arith
shorter_than (Break s) m n h short = omega arith

-- a turn of the walk leaves fewer bytes than it found
pub fewer : (s : List ℕ) (m : ℕ) (before left : Left) (x : Bor (List ℕ)) → before ≡ Continue x → m ≤ length x.now → Within s before → Shorter left m → Within s left
fewer s m before left x e short within h =
    let here : length x.now ≤ length s = subst (Within s) e within in omega (arith, bytes_left left m h)

falls_by : (left : Left) (n : ℕ) → Shorter left n → left_length left < suc n
falls_by (Continue s) n h = omega (arith, h)
falls_by (Break s) n h = omega arith

pub falls : (m : ℕ) (before left : Left) (x : Bor (List ℕ)) → before ≡ Continue x → m ≤ length x.now → Shorter left m → left_length left < left_length before
falls m before left x e short h =
    subst (λ l. left_length left < left_length l) (sym e) (falls_by left (length x.now) (shorter_than left m (length x.now) short h))

-- the member has the name
pub hit : {T : Type 0} (right : Json → T → Type 0) (found : Slot T) (value : T) (called : List ℕ) (ms others : Membs) (n : List ℕ) (tree : Json) (more : Membs)
    → others ≡ memb n tree more → n ≡ called → right tree value → SoFar right found called ms others → SoFar right (added found value) called ms more
hit right Missing value called ms others n tree more is e v (c, u) =
    let one : count called others ≡ suc (count called more) = ap (count called) is ∙ cond-true _ _ _ (same_true n called e) in
    let found : under called others ≡ Some tree = ap (under called) is ∙ cond-true _ _ _ (same_true n called e) in
    (omega (arith, c, one), (tree, u ∙ found, v))
hit right (Once w) value called ms others n tree more is e v (c, u) =
    let one : count called others ≡ suc (count called more) = ap (count called) is ∙ cond-true _ _ _ (same_true n called e) in
    omega (arith, c, one)
hit right Twice value called ms others n tree more is e v c = c

-- the member has another name
pub miss : {T : Type 0} (right : Json → T → Type 0) (found : Slot T) (called : List ℕ) (ms others : Membs) (n : List ℕ) (tree : Json) (more : Membs)
    → others ≡ memb n tree more → (n ≡ called → ⊥) → SoFar right found called ms others → SoFar right found called ms more
miss right Missing called ms others n tree more is e (c, u) =
    (c ∙ ap (count called) is ∙ cond-false _ _ _ (same_false n called e), u ∙ ap (under called) is ∙ cond-false _ _ _ (same_false n called e))
miss right (Once w) called ms others n tree more is e (c, u) =
    (c ∙ ap (λ k. 1 + k) (ap (count called) is ∙ cond-false _ _ _ (same_false n called e)), u)
miss right Twice called ms others n tree more is e c = c

-- the member has this name, which is another
pub pass : {T : Type 0} (right : Json → T → Type 0) (found : Slot T) (word called : List ℕ) (ms others : Membs) (n : List ℕ) (tree : Json) (more : Membs)
    → others ≡ memb n tree more → n ≡ word → bytes_eq word called ≡ false → SoFar right found called ms others → SoFar right found called ms more
pass right found word called ms others n tree more is e ne far =
    miss right found called ms others n tree more is (λ q. true≢false (sym (same_true word called (sym e ∙ q)) ∙ ne)) far

-- a name that must stand once does, with a value of which this was found, or does not
abbrev pub RequiredIn : {T : Type 0} → (Json → T → Type 0) → List ℕ → Membs → Result T Refusal → Type 0
RequiredIn right name ms r =
    MatchResult r (λ v. (count name ms ≡ 1) × ((tree : Json) × (under name ms ≡ Some tree) × right tree v)) (λ why. (why ≡ BadMembers) × (count name ms ≡ 1 → ⊥))

-- a name that may stand once stands with such a value or not at all, or it stands twice
abbrev pub OptionalIn : {T : Type 0} → (Json → T → Type 0) → List ℕ → Membs → Result (Option T) Refusal → Type 0
OptionalIn right name ms r =
    MatchResult r (λ o. (count name ms ≤ 1) × MatchOption o (under name ms ≡ None) (λ v. (tree : Json) × (under name ms ≡ Some tree) × right tree v)) (λ why. (why ≡ BadMembers) × (count name ms ≤ 1 → ⊥))

module _ {T : Type 0} (right : Json → T → Type 0) (name : List ℕ) (ms : Membs) where
  by_required : (slot : Slot T) → Found right slot name ms → RequiredIn right name ms (required_of slot)
  by_required Missing (c, u) = (refl, λ one. omega (arith, c, one))
  by_required (Once v) f = f
  by_required Twice c = (refl, λ one. omega (arith, c, one))

  pub is_required : (slot : Slot T) (r : Result T Refusal) → r ≡ required_of slot → Found right slot name ms → RequiredIn right name ms r
  is_required slot r e f = subst (RequiredIn right name ms) (sym e) (by_required slot f)

  by_optional : (slot : Slot T) → Found right slot name ms → OptionalIn right name ms (optional_of slot)
  by_optional Missing (c, u) = (omega (arith, c), u)
  by_optional (Once v) (c, u) = (omega (arith, c), u)
  by_optional Twice c = (refl, λ few. omega (arith, c, few))

  pub is_optional : (slot : Slot T) (r : Result (Option T) Refusal) → r ≡ optional_of slot → Found right slot name ms → OptionalIn right name ms r
  is_optional slot r e f = subst (OptionalIn right name ms) (sym e) (by_optional slot f)

  -- no members are left
  pub found_all : (slot : Slot T) → SoFar right slot name ms no_memb → Found right slot name ms
  found_all Missing (c, u) = (c, u)
  found_all (Once v) (c, u) = (omega (arith, c), u)
  found_all Twice c = c

-- the same of bytes, which `Under` speaks of
module _ (name : List ℕ) (ms : Membs) where
  of_required : (r : Result (Bor (List ℕ)) Refusal) → RequiredIn Bytes name ms r → Required name ms r
  of_required (Ok v) (c, (tree, is, bytes)) = (c, record { tree = tree; is = is; bytes = bytes })
  of_required (Err why) h = h

  of_optional : (r : Result (Option (Bor (List ℕ))) Refusal) → OptionalIn Bytes name ms r → Optional name ms r
  of_optional (Ok None) h = h
  of_optional (Ok (Some v)) (c, (tree, is, bytes)) = (c, record { tree = tree; is = is; bytes = bytes })
  of_optional (Err why) h = h

  pub required_bytes : (slot : Slot (Bor (List ℕ))) (r : Result (Bor (List ℕ)) Refusal) → r ≡ required_of slot → Found Bytes slot name ms → Required name ms r
  required_bytes slot r e f = of_required r (is_required Bytes name ms slot r e f)

  pub optional_bytes : (slot : Slot (Bor (List ℕ))) (r : Result (Option (Bor (List ℕ))) Refusal) → r ≡ optional_of slot → Found Bytes slot name ms → Optional name ms r
  optional_bytes slot r e f = of_optional r (is_optional Bytes name ms slot r e f)

-- names are the same where they are with their quotes
pub unquoted : (n called : List ℕ) → quoted n ≡ quoted called → n ≡ called
unquoted n called e = append_cancel_right n called (34 ∷ []) (ap (drop 1) e)
