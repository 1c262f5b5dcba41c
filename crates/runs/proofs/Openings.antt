-- The three changes of a table, at the place of a number. Assumes nothing.
use Rattle.std.proofs.Common.{◌≡◌, ℕ, suc, ◌+◌, ◌<◌, ◌≤◌, max, true, List, [], ◌∷◌, ◌++◌, length, get_or, take, drop, sym, ap, ◌∙◌, subst, arith, take-append-drop}
use Rattle.std.proofs.lemmas.List.{drop_more, length-drop, get_or-drop}
use Rattle.runs.specs.Places.{Clear, Touches, Between}
use Rattle.runs.specs.Stretches.{covers, ascending, with_number, Stretches}
use Rattle.runs.specs.declared.run.Run.{Run}
use Rattle.runs.proofs.Ascends.{Rising, rising_from}
use Rattle.runs.proofs.Edits.{With, edit, opened, taken_in, joins, widened, joined}

-- runs whose first begins late enough begin late enough
late : (low lower : ℕ) (xs : List Run) → ((d : Run) → 0 < length xs → low ≤ (get_or xs 0 d).first) → Rising lower xs → Rising low xs
late low lower [] h g = tt
late low lower (x ∷ xs) h g = (h x (omega arith), g.1, g.2)

-- a change from the place on is a change of the whole
edit_at : (rs ys : List Run) (n p : ℕ) → ascending 0 rs ≡ true → Clear rs n p → ((l : ℕ) → l ≤ n → Rising l (drop p rs) → With n l (drop p rs) ys) → Stretches (with_number (covers rs) n) (take p rs ++ ys)
edit_at rs ys n p g clear change =
    subst (λ l. Stretches (with_number (covers l) n) (take p rs ++ ys)) (take-append-drop p rs)
    (edit (take p rs) (drop p rs) ys n clear.1 (rising_from 0 _ (subst (λ l. ascending 0 l ≡ true) (sym (take-append-drop p rs)) g)) change)

-- a run is opened where the number touches none
pub between_stretches : (rs : List Run) (n p : ℕ) → ascending 0 rs ≡ true → Between rs n p → Stretches (with_number (covers rs) n) (take p rs ++ record { first = n; last = n } ∷ drop p rs)
between_stretches rs n p g b =
    edit_at rs (record { first = n; last = n } ∷ drop p rs) n p g b.clear
    (λ l h rising. opened n l (drop p rs) h (late (n + 2) l (drop p rs) (λ d s. subst (λ k. n + 2 ≤ k.first) (sym (get_or-drop p rs 0 d ∙ ap (λ k. get_or rs k d) (omega arith))) (b.apart d (omega (arith, length-drop p rs)))) rising))

-- what stands from the place on: its run and the rest
rest_at : (rs : List Run) (p : ℕ) (d : Run) → p < length rs → drop p rs ≡ get_or rs p d ∷ drop (p + 1) rs
rest_at rs p d h = drop_more rs p d h

-- the run at the place takes the number in, where the next stays apart
pub alone_stretches : (rs : List Run) (n p : ℕ) (d : Run) → ascending 0 rs ≡ true → Touches rs n p → ((e : Run) → p + 1 < length rs → max (get_or rs p d).last n + 2 ≤ (get_or rs (p + 1) e).first) → Stretches (with_number (covers rs) n) (take p rs ++ widened (get_or rs p d) n ∷ drop (p + 1) rs)
alone_stretches rs n p d g t apart =
    let r = get_or rs p d in
    edit_at rs (widened r n ∷ drop (p + 1) rs) n p g t.clear
    (λ l h rising.
    subst (λ xs. With n l xs (widened r n ∷ drop (p + 1) rs)) (sym (rest_at rs p d t.inside))
    (let g' : Rising l (r ∷ drop (p + 1) rs) = subst (Rising l) (rest_at rs p d t.inside) rising in
    taken_in n l r (drop (p + 1) rs) h (t.begins d) (t.ends d) g'
    (late (max r.last n + 2) (r.last + 2) (drop (p + 1) rs) (λ e s. subst (λ k. max r.last n + 2 ≤ k.first) (sym (get_or-drop (p + 1) rs 0 e ∙ ap (λ k. get_or rs k e) (omega arith))) (apart e (omega (arith, length-drop (p + 1) rs)))) g'.2)))

-- and the next run too, where no number is left between them
pub join_stretches : (rs : List Run) (n p : ℕ) (d e : Run) → ascending 0 rs ≡ true → Touches rs n p → p + 1 < length rs → (get_or rs (p + 1) e).first ≤ suc (max (get_or rs p d).last n) → Stretches (with_number (covers rs) n) (take p rs ++ joined (widened (get_or rs p d) n) (get_or rs (p + 1) e) ∷ drop (p + 2) rs)
join_stretches rs n p d e g t in' near =
    let r = get_or rs p d in
    let s = get_or rs (p + 1) e in
    let ys = joined (widened r n) s ∷ drop (p + 2) rs in
    let parts : drop p rs ≡ r ∷ (s ∷ drop (p + 2) rs) = rest_at rs p d t.inside ∙ ap (λ l. r ∷ l) (rest_at rs (p + 1) e in' ∙ ap (λ k. s ∷ drop k rs) (omega arith)) in
    edit_at rs ys n p g t.clear
    (λ l h rising. subst (λ xs. With n l xs ys) (sym parts) (joins n l r s (drop (p + 2) rs) h (t.begins d) (t.ends d) near (subst (Rising l) parts rising)))
