-- Bytes that stand for themselves in a string. Assumes nothing.
use Rattle.std.proofs.Common.{◌≡◌, ℕ, zero, suc, ◌+◌, ◌-◌, ◌≤◌, Bool, true, false, ◌&&◌, List, [], ◌∷◌, length, get_or, MatchBool, sym, refl, ap, ◌∙◌, subst, ⊎_elim, arith, drop, length-drop, drop-drop}
use Rattle.json_text.specs.Grammar.{plain}
use Rattle.json_text.specs.Parts.{PlainTo, string_length}
use Rattle.std.proofs.lemmas.List.{get_or-drop}
use Rattle.std.proofs.lemmas.Bool.{cases_lt, false≢true}
use Rattle.std.proofs.lemmas.Bool.Decides.{nat_tests}

-- a byte that stands for itself
string_more : (b : ℕ) (s : List ℕ) → plain b ≡ true → string_length (b ∷ s) ≡ suc (string_length s)
unfolding string_length
string_more b s h = grind (arith, nat_tests)

pub none_plain : (s : List ℕ) → PlainTo 0 s
none_plain s i h = absurd (omega arith)

-- n more after the first i
pub more_plain : (s : List ℕ) (i n : ℕ) → PlainTo i s → PlainTo n (drop i s) → PlainTo (i + n) s
more_plain s i n front back j h =
    ⊎_elim
    (λ less. front j less)
    (λ past. subst (λ k. plain (get_or s k 0) ≡ true) (let e : i + (j - i) ≡ j = omega arith in e) (sym (ap plain (get_or-drop i s (j - i) 0)) ∙ back (j - i) (omega arith)))
    (cases_lt j i)

pub one_plain : (s : List ℕ) (i : ℕ) → PlainTo i s → plain (get_or s i 0) ≡ true → PlainTo (i + 1) s
one_plain s i front here = more_plain s i 1 front (λ j h. ap plain (get_or-drop i s j 0 ∙ ap (λ k. get_or s k 0) (let e : i + j ≡ i = omega arith in e)) ∙ here)

-- plain bytes at the front are passed
pub plain_front : (s : List ℕ) (n : ℕ) → n ≤ length s → PlainTo n s → string_length s ≡ n + string_length (drop n s)
plain_front s zero h all = omega arith
plain_front [] (suc n) h all = absurd (omega arith)
plain_front (b ∷ s) (suc n) h all =
    let here : plain b ≡ true = all 0 (omega arith) in
    let rest = plain_front s n (omega arith) (λ i less. all (suc i) (omega arith)) in
    omega (arith, string_more b s here, rest)

-- one test more
pub and_plain : (s : List ℕ) (n : ℕ) (p r : Bool) → (p ≡ true → PlainTo n s) → r ≡ plain (get_or s n 0) → (p && r) ≡ true → PlainTo (n + 1) s
and_plain s n true r front is both = one_plain s n (front refl) (sym is ∙ both)
and_plain s n false r front is both = absurd (false≢true both)

pub when_true : {P : Type 0} (b : Bool) → (b ≡ true → P) → MatchBool b P (Unit {0})
when_true true p = p refl
when_true false p = tt

-- what is left of the bytes follows bytes that stand for themselves
pub record PlainFront (s left : List ℕ) : Type 0 where
  pub bound : length left ≤ length s
  pub is : left ≡ drop (length s - length left) s
  pub plain : PlainTo (length s - length left) s

-- n bytes more are gone of what is left: how many are gone then, and what is left
pub gone_on : (s left rest : List ℕ) (n : ℕ) → length left ≤ length s → left ≡ drop (length s - length left) s → n ≤ length left → rest ≡ drop n left
    → (length s - length left + n ≡ length s - length rest) × (length rest ≤ length s) × (rest ≡ drop (length s - length rest) s)
gone_on s left rest n bound front room is =
    let i = length s - length left in
    let long : length rest ≡ length left - n = ap length is ∙ length-drop n left in
    let e : i + n ≡ length s - length rest = omega (arith, bound) in
    (e, omega (arith, bound), is ∙ ap (drop n) front ∙ drop-drop n i s ∙ ap (λ m. drop m s) e)

pub more_gone : (s left rest : List ℕ) (n : ℕ) → PlainFront s left → n ≤ length left → PlainTo n left → rest ≡ drop n left → PlainFront s rest
more_gone s left rest n front room all is =
    let g = gone_on s left rest n front.bound front.is room is in
    record {
      bound = g.1;
      is = g.2;
      plain = subst (λ m. PlainTo m s) g.0 (more_plain s (length s - length left) n front.plain (subst (PlainTo n) front.is all));
    }
