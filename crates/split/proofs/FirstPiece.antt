-- The first piece of a text, and the others. Assumes nothing.
use Rattle.std.proofs.Common.{◌≡◌, ℕ, ◌<◌, Bool, true, false, cond, List, [], ◌∷◌, length, nat_eq, refl, ap, arith}
use Rattle.split.specs.Split.{after, before}
use Rattle.split.specs.Pieces.{in_front, pieces}

-- where the byte is no separator, the first piece begins with it
longer : (s b : ℕ) (bs : List ℕ) → (0 < length bs → pieces s bs ≡ before s bs ∷ pieces s (after s bs)) → in_front b (pieces s bs) ≡ (b ∷ before s bs) ∷ pieces s (after s bs)
longer s b [] rest = refl
longer s b (c ∷ cs) rest = ap (in_front b) (rest (omega arith))

pick : (t : Bool) (s b : ℕ) (bs : List ℕ) → in_front b (pieces s bs) ≡ (b ∷ before s bs) ∷ pieces s (after s bs) → cond t ([] ∷ pieces s bs) (in_front b (pieces s bs)) ≡ cond t [] (b ∷ before s bs) ∷ pieces s (cond t bs (after s bs))
pick true s b bs h = refl
pick false s b bs h = h

pub pieces_first : (s : ℕ) (text : List ℕ) → 0 < length text → pieces s text ≡ before s text ∷ pieces s (after s text)
pieces_first s [] h = absurd (omega arith)
pieces_first s (b ∷ bs) h = pick (nat_eq b s) s b bs (longer s b bs (pieces_first s bs))
