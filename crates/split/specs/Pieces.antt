-- The pieces of a text between separators. Assumes nothing.
use Rattle.std.specs.Prelude.{ℕ, cond, List, [], ◌∷◌, ◌==◌}
use Rattle.split.specs.declared.pieces.Pieces.{Pieces}

-- the byte stands at the front of the first piece, or alone where there is none
abbrev pub in_front : ℕ → List (List ℕ) → List (List ℕ)
in_front b [] = (b ∷ []) ∷ []
in_front b (piece ∷ pieces) = (b ∷ piece) ∷ pieces

-- what stands between separators; nothing follows a separator at the end
abbrev pub pieces : ℕ → List ℕ → List (List ℕ)
pieces separator [] = []
pieces separator (b ∷ bs) = cond (b == separator) ([] ∷ pieces separator bs) (in_front b (pieces separator bs))

-- the pieces that are still to come
abbrev pub left : Pieces → List (List ℕ)
left p = pieces p.separator p.rest.now
