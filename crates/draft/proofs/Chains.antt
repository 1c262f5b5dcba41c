-- Piece behind piece. Assumes nothing.
use Rattle.std.proofs.Common.{◌≡◌, ℕ, ◌+◌, ◌≤◌, List, [], ◌∷◌, ◌++◌, length, sym, refl, ap, ◌∙◌, append_assoc, append-nil, arith, length-append}
use Rattle.draft.specs.Growing.{most}

-- the pieces one behind the other, and their length
abbrev pub whole : List (List ℕ) → List ℕ
whole [] = []
whole (x ∷ xs) = x ++ whole xs

abbrev pub size : List (List ℕ) → ℕ
size [] = 0
size (x ∷ xs) = length x + size xs

-- each piece was pushed in turn, where it fits
pub data Pushed : List ℕ → List (List ℕ) → List ℕ → Type 0 where
  none : {text : List ℕ} → Pushed text [] text
  then : {before x between after : List ℕ} {xs : List (List ℕ)} → (length before + length x ≤ most → between ≡ before ++ x) → Pushed between xs after → Pushed before (x ∷ xs) after

pub pushed_text : {before after : List ℕ} {xs : List (List ℕ)} → Pushed before xs after → length before + size xs ≤ most → after ≡ before ++ whole xs
pushed_text {before} none fits = sym (append-nil before)
pushed_text {before} (then {x} {between} {xs} taken more) fits =
    let here : between ≡ before ++ x = taken (omega arith) in
    pushed_text more (omega (arith, ap length here, length-append before x)) ∙ ap (λ l. l ++ whole xs) here ∙ append_assoc before x (whole xs)

pub size_whole : (xs : List (List ℕ)) → length (whole xs) ≡ size xs
size_whole [] = refl
size_whole (x ∷ xs) = length-append x (whole xs) ∙ ap (λ n. length x + n) (size_whole xs)

pub pushed_length : {before after : List ℕ} {xs : List (List ℕ)} → Pushed before xs after → length before + size xs ≤ most → length after ≡ length before + size xs
pushed_length {before} {xs} p fits = ap length (pushed_text p fits) ∙ length-append before (whole xs) ∙ ap (λ n. length before + n) (size_whole xs)
