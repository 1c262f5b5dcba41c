-- The scanner's containers as what is open. Assumes nothing.
use Rattle.std.proofs.Common.{◌≡◌, ◌+◌, ◌-◌, ◌≤◌, eqb, false, List, [], ◌∷◌, ◌++◌, length, take, Some, slice_get, sym, refl, ap, ◌∙◌, arith}
use Rattle.std.proofs.Math.Dec.{eqb-suc-zero}
use Rattle.json_text.specs.Beginnings.{deepest}
use Rattle.json_text.specs.Machine.{Kind, none_open}
use Rattle.json_text.specs.Machine.Kind.{arr, obj}
use Rattle.json_text.specs.Machine.Mode.{first, opened}
use Rattle.json_text.specs.Scanning.{kind_of, opened_in, outer, stack, stacked, top}
use Rattle.json_text.specs.Verdict.{TooFar}
use Rattle.json_text.specs.declared.mode.Container.{Container}
use Rattle.json_text.specs.declared.mode.Container.TheVariants.{Array, Object}

top_kind : (c : Container) (k : List Kind) → top (kind_of c ∷ k) ≡ Some c
top_kind Array k = refl
top_kind Object k = refl

-- the last that was opened is the innermost
pub stacked_last : (k : List Kind) (xs : List Container) (c : Container) → stacked k (xs ++ c ∷ []) ≡ kind_of c ∷ stacked k xs
stacked_last k [] c = refl
stacked_last k (x ∷ xs) c = stacked_last (kind_of x ∷ k) xs c

last_top : (k : List Kind) (x : Container) (xs : List Container) → top (stacked k (x ∷ xs)) ≡ slice_get (x ∷ xs) (length xs)
last_top k x [] = top_kind x k
last_top k x (y ∷ ys) = last_top (kind_of x ∷ k) y ys

pub top_stack : (xs : List Container) → top (stack xs) ≡ slice_get xs (length xs - 1)
top_stack [] = refl
top_stack (x ∷ xs) = last_top [] x xs ∙ ap (slice_get (x ∷ xs)) (let e : length xs ≡ length (x ∷ xs) - 1 = omega arith in e)

front_outer : (k : List Kind) (x : Container) (xs : List Container) → stacked k (take (length xs) (x ∷ xs)) ≡ outer (stacked k (x ∷ xs))
front_outer k x [] = refl
front_outer k x (y ∷ ys) = front_outer (kind_of x ∷ k) y ys

pub stack_pop : (xs : List Container) → stack (take (length xs - 1) xs) ≡ outer (stack xs)
stack_pop [] = refl
stack_pop (x ∷ xs) = ap (λ n. stack (take n (x ∷ xs))) (let e : length (x ∷ xs) - 1 ≡ length xs = omega arith in e) ∙ front_outer [] x xs

pub length_stacked : (k : List Kind) (xs : List Container) → length (stacked k xs) ≡ length k + length xs
length_stacked k [] = omega arith
length_stacked k (x ∷ xs) = omega (arith, length_stacked (kind_of x ∷ k) xs)

pub length_stack : (xs : List Container) → length (stack xs) ≡ length xs
length_stack xs = omega (arith, length_stacked [] xs)

none_more : (c : Kind) (k : List Kind) (xs : List Container) → none_open (stacked (c ∷ k) xs) ≡ false
none_more c k [] = refl
none_more c k (x ∷ xs) = none_more (kind_of x) (c ∷ k) xs

pub none_stacked : (xs : List Container) → none_open (stack xs) ≡ eqb (length xs) 0
none_stacked [] = refl
none_stacked (x ∷ xs) = none_more (kind_of x) [] xs ∙ sym (eqb-suc-zero (length xs))

-- one more than may be open
pub too_far : (c : Container) (k : List Kind) → deepest ≤ length k → TooFar (opened_in c k)
too_far Array k h = record { mode = first; kinds = arr ∷ k; is = refl; deep = omega arith }
too_far Object k h = record { mode = opened; kinds = obj ∷ k; is = refl; deep = omega arith }
