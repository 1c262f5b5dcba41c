-- What the changes of a table do to the runs in use. Assumes nothing.
use Rattle.std.proofs.Common.{◌≡◌, ℕ, suc, ◌+◌, ◌-◌, ◌<◌, ◌≤◌, max, true, false, leb, List, ◌∷◌, ◌++◌, length, get_or, take, drop, set, [], Some, None, Option, MatchOption, slice_get, Bor, sym, ap, ◌∙◌, subst, ap₂, arith, length-drop, length-set, length-take}
use borrow.Rule.Slice.PartMut.{put_mid, mid_of}
use Rattle.std.proofs.lemmas.List.{take_more, length-append, take_all, get_or_default, get_or-drop, get_or-take, get_or-set_same, get_or-set_other, set-set}
use Rattle.std.proofs.lemmas.Option.{same_Some, slice_get-get_or}
use Rattle.std.proofs.lemmas.Bool.{cond-true, leb-false, leb-true, lt-ltb}
use Rattle.runs.proofs.Ascends.{Rising, ascending_from, rising_from, stretches_exact}
use Rattle.runs.proofs.Gaps.{edge, edge_at, gap, gaps_cover, gaps_from, gaps_more, gaps_rising, highest_last, rising_here, rising_next, rising_take}
use Rattle.runs.proofs.Sizes.{total, total_counts, total_more}
use Rattle.runs.proofs.Moves.{move_up, move_down, set_used}
use Rattle.runs.proofs.Openings.{alone_stretches, between_stretches, join_stretches}
use Rattle.runs.proofs.Edits.{widened, joined}
use Rattle.runs.specs.Places.{Between, Place, Touches}
use Rattle.runs.specs.Gaps.{between, highest}
use Rattle.runs.specs.Stretches.{Counts, Stretches, ascending, covers, most_runs, with_number}
use Rattle.runs.specs.Contents.{runs_in}
use Rattle.runs.specs.declared.run.Run.{Run}
use Rattle.runs.specs.declared.table.RunTable.{RunTable}
use Rattle.std.specs.Option.{option_copied}

-- any run, for reading a list within its length
abbrev pub some_run : Run
some_run = record { first = 0; last = 0 }

-- mem is the memory, c how many places are in use, p the place and n the number
module _ (mem : List Run) (c p n : ℕ) (rising : ascending 0 (take c mem) ≡ true) where
  -- a run opened at the place
  pub opened_table : (rot : List Run) (o : Run) → c < length mem → Between (take c mem) n p → length rot ≡ length (mid_of p (c + 1 - p) mem) → ((i : ℕ) (d : Run) → 1 ≤ i → i < length (mid_of p (c + 1 - p) mem) → get_or rot i d ≡ get_or (mid_of p (c + 1 - p) mem) (i - 1) d) → o ≡ record { first = n; last = n } → Stretches (with_number (covers (take c mem)) n) (take (c + 1) (set (put_mid p (c + 1 - p) mem rot) p o))
  opened_table rot o fits b len moved is =
      let in' : p ≤ c = omega (arith, b.clear.0, length-take c mem) in
      let wide : length (mid_of p (c + 1 - p) mem) ≡ c + 1 - p = simp (length-take, length-drop) (omega arith) in
      let lists = move_up mem rot c p o in' fits (len ∙ wide) (λ i d a l. moved i d a (omega arith) ∙ get_or-take (c + 1 - p) (drop p mem) (i - 1) d (omega arith) ∙ get_or-drop p mem (i - 1) d ∙ ap (λ k. get_or mem k d) (omega arith)) in
      subst (Stretches (with_number (covers (take c mem)) n)) (sym (lists ∙ ap (λ x. take p (take c mem) ++ x ∷ drop p (take c mem)) is))
      (between_stretches (take c mem) n p rising b)

  module _ (fits : c ≤ length mem) (t : Touches (take c mem) n p) (w : Run) (wide : w ≡ widened (get_or mem p some_run) n) where
    in_use : p < c
    in_use = omega (arith, t.inside, length-take c mem)

    widened_is : w ≡ widened (get_or (take c mem) p some_run) n
    widened_is = wide ∙ ap (λ r. widened r n) (sym (get_or-take c mem p some_run in_use))

    here : get_or (set mem p w) p some_run ≡ w
    here = get_or-set_same mem p w some_run (omega (arith, in_use))

    next : p + 1 < c → (d : Run) → get_or (take c mem) (p + 1) d ≡ get_or (set mem p w) (p + 1) some_run
    next h d = get_or-take c mem (p + 1) d h ∙ get_or_default mem (p + 1) d some_run (omega arith) ∙ sym (get_or-set_other mem p (p + 1) w some_run (omega arith))

    -- the number taken into the run at the place, the next staying apart
    pub widened_table : (p + 1 < c → leb (suc (suc (get_or (set mem p w) p some_run).last)) (get_or (set mem p w) (p + 1) some_run).first ≡ true) → Stretches (with_number (covers (take c mem)) n) (take c (set mem p w))
    widened_table apart =
        subst (Stretches (with_number (covers (take c mem)) n))
        (sym (set_used mem c p w in_use fits ∙ ap (λ x. take p (take c mem) ++ x ∷ drop (p + 1) (take c mem)) widened_is))
        (alone_stretches (take c mem) n p some_run rising t
        (λ e h.
        let h' : p + 1 < c = omega (arith, length-take c mem) in
        subst (λ r. max (get_or (take c mem) p some_run).last n + 2 ≤ r.first) (sym (next h' e))
        (omega (arith, leb-true _ _ (apart h'), ap (λ r. r.last) here, ap (λ r. r.last) widened_is))))

    -- and joined with the next
    pub joined_table : (rot : List Run) (j : Run) → p + 1 < c → leb (suc (suc (get_or (set mem p w) p some_run).last)) (get_or (set mem p w) (p + 1) some_run).first ≡ false → j ≡ joined (get_or (set mem p w) p some_run) (get_or (set mem p w) (p + 1) some_run) → length rot ≡ length (mid_of (p + 1) (c - (p + 1)) (set (set mem p w) p j)) → ((i : ℕ) (d : Run) → i + 1 < length (mid_of (p + 1) (c - (p + 1)) (set (set mem p w) p j)) → get_or rot i d ≡ get_or (mid_of (p + 1) (c - (p + 1)) (set (set mem p w) p j)) (i + 1) d) → Stretches (with_number (covers (take c mem)) n) (take (c - 1) (put_mid (p + 1) (c - (p + 1)) (set (set mem p w) p j) rot))
    joined_table rot j h near is len moved =
        let e = some_run in
        let mem' = set (set mem p w) p j in
        let long : length (mid_of (p + 1) (c - (p + 1)) mem') ≡ c - (p + 1) = simp (length-take, length-drop, length-set) (omega arith) in
        let j-is : j ≡ joined (widened (get_or (take c mem) p e) n) (get_or (take c mem) (p + 1) e) = is ∙ (λ i. joined ((here ∙ widened_is) i) (sym (next h e) i)) in
        let lists = move_down mem rot c p w j h fits (len ∙ long)
        (λ i d l. moved i d (omega arith) ∙ get_or-take (c - (p + 1)) (drop (p + 1) mem') (i + 1) d (omega arith) ∙ get_or-drop (p + 1) mem' (i + 1) d
        ∙ ap (λ m. get_or m (p + 1 + (i + 1)) d) (set-set mem p w j) ∙ get_or-set_other mem p (p + 1 + (i + 1)) j d (omega arith) ∙ ap (λ k. get_or mem k d) (omega arith)) in
        subst (Stretches (with_number (covers (take c mem)) n)) (sym (lists ∙ ap (λ x. take p (take c mem) ++ x ∷ drop (p + 2) (take c mem)) j-is))
        (join_stretches (take c mem) n p e e rising t (omega (arith, length-take c mem))
        (omega (arith, leb-false _ _ near, ap (λ r. r.last) here, ap (λ r. r.last) widened_is, ap (λ r. r.first) (next h e))))

-- what the tests at the place tell
module _ (mem : List Run) (c n : ℕ) (fits : c ≤ length mem) where
  used : length (take c mem) ≡ c
  used = simp length-take (omega arith)

  at_place : (p : ℕ) (d : Run) → p < c → get_or (take c mem) p d ≡ get_or mem p some_run
  at_place p d h = get_or-take c mem p d h ∙ get_or_default mem p d some_run (omega arith)

  pub between_found : (p : ℕ) → Place (take c mem) n p → (p < c → leb (suc (suc n)) (get_or mem p some_run).first ≡ true) → Between (take c mem) n p
  between_found p at far =
      record {
        clear = at.clear;
        apart = λ d l. let h : p < c = omega (arith, used) in subst (λ r. n + 2 ≤ r.first) (sym (at_place p d h)) (omega (arith, leb-true _ _ (far h)));
      }

  -- with all places in use, one more run is too many
  pub too_many : (p : ℕ) → c ≡ most_runs → ascending 0 (take c mem) ≡ true → Between (take c mem) n p → (more : List Run) × Stretches (with_number (covers (take c mem)) n) more × (most_runs < length more)
  too_many p full rising b =
      let more = take p (take c mem) ++ record { first = n; last = n } ∷ drop p (take c mem) in
      (more, between_stretches (take c mem) n p rising b, simp (length-append, length-take, length-drop) (omega (arith, b.clear.0, used)))

-- reading rising runs
module _ (rs : List Run) (rising : ascending 0 rs ≡ true) where
  order : Rising 0 rs
  order = rising_from 0 rs rising

  pub in_order : (i : ℕ) (d : Run) → i < length rs → (get_or rs i d).first ≤ (get_or rs i d).last
  in_order i d h = rising_here 0 rs i d order h

  pub more_total : (i : ℕ) (d : Run) → i < length rs → total (take (i + 1) rs) ≡ total (take i rs) + ((get_or rs i d).last - (get_or rs i d).first + 1)
  more_total i d h = ap total (take_more rs i d h) ∙ total_more (take i rs) (get_or rs i d)

  pub all_total : (i : ℕ) → length rs ≤ i → Counts rs (total (take i rs))
  all_total i h = subst (λ l. Counts rs (total l)) (sym (take_all i rs h)) (total_counts rs order)

  pub next_above : (i : ℕ) (d : Run) → i + 1 < length rs → (get_or rs i d).last + 2 ≤ (get_or rs (i + 1) d).first
  next_above i d h = let here : suc i ≡ i + 1 = omega arith in subst (λ k. (get_or rs i d).last + 2 ≤ (get_or rs k d).first) here (rising_next 0 rs i d order (omega arith))

  -- the gaps so far, with the one in front of the next run
  pub gaps_next : (gaps : List Run) (i : ℕ) (d : Run) → i + 1 < length rs → gaps ≡ gaps_from 0 (take (i + 1) rs) → gaps ++ record { first = suc (get_or rs i d).last; last = (get_or rs (i + 1) d).first - 1 } ∷ [] ≡ gaps_from 0 (take (i + 1 + 1) rs)
  gaps_next gaps i d h is =
      let here : suc i ≡ i + 1 = omega arith in
      let low = subst (λ k. edge 0 (take k rs) ≡ suc (get_or rs i d).last) here (edge_at 0 rs i d (omega arith)) in
      let one : gap (suc (get_or rs i d).last) (get_or rs (i + 1) d).first ≡ record { first = suc (get_or rs i d).last; last = (get_or rs (i + 1) d).first - 1 } ∷ [] = cond-true _ _ _ (lt-ltb (suc (get_or rs i d).last) (get_or rs (i + 1) d).first (omega (arith, next_above i d h))) in
      ap₂ (λ a b. a ++ b) is (sym (ap (λ a. gap a (get_or rs (i + 1) d).first) low ∙ one)) ∙ sym (gaps_more 0 (take (i + 1) rs) (get_or rs (i + 1) d)) ∙ ap (gaps_from 0) (sym (take_more rs (i + 1) d h))

  pub gaps_ascend : (gaps : List Run) (i : ℕ) → gaps ≡ gaps_from 0 (take i rs) → ascending 0 gaps ≡ true
  gaps_ascend gaps i is = subst (λ l. ascending 0 l ≡ true) (sym is) (ascending_from 0 _ (gaps_rising 0 (take i rs) (rising_take 0 rs i order)))

  pub gaps_all : (gaps : List Run) (i : ℕ) → length rs ≤ i → gaps ≡ gaps_from 0 (take i rs) → Stretches (between rs) gaps
  gaps_all gaps i h is =
      subst (Stretches (between rs)) (sym (is ∙ ap (gaps_from 0) (take_all i rs h)))
      (stretches_exact (between rs) (gaps_from 0 rs) (gaps_rising 0 rs order) (λ n. gaps_cover 0 n rs order (omega arith)))

pub count_is : (table : RunTable) → length (runs_in table) ≡ table.count
count_is table = simp length-take (omega arith)

-- a slice of all runs of a table
module _ (table : RunTable) (rs : List Run) (all : rs ≡ runs_in table) where
  pub few : length rs ≤ most_runs
  few = rw all (omega (arith, count_is table))

  pub rise : ascending 0 rs ≡ true
  rise = rw all table.rising

  -- those after the first
  pub later_length : length (take (length rs - 1) (drop 1 rs)) ≡ length (runs_in table) - 1
  later_length = omega (arith, length-take (length rs - 1) (drop 1 rs), length-drop 1 rs, ap length all)

  pub later_at : (i : ℕ) (d : Run) → i < length (take (length rs - 1) (drop 1 rs)) → get_or (take (length rs - 1) (drop 1 rs)) i d ≡ get_or (runs_in table) (i + 1) some_run
  later_at i d h =
      let l : i < length rs - 1 = omega (arith, later_length, ap length all) in
      get_or-take (length rs - 1) (drop 1 rs) i d l ∙ get_or-drop 1 rs i d ∙ ap (λ k. get_or rs k d) (omega arith) ∙ get_or_default rs (i + 1) d some_run (omega arith) ∙ ap (λ l. get_or l (i + 1) some_run) all

-- what the last of the runs tells, where there is one
pub highest_told : (rs : List Run) (found : Option (Bor Run)) (n : ℕ) (Tells : Bor Run → Type 0) → option_copied found ≡ slice_get rs (length rs - 1) → MatchOption found (n ≡ 0) Tells → ((r : Bor Run) → Tells r → n ≡ r.now.last) → n ≡ highest rs
highest_told [] None n Tells is told read = told
highest_told [] (Some b) n Tells is told read = absurd (cc)
highest_told (r ∷ rs) None n Tells is told read = absurd (let e = slice_get-get_or (r ∷ rs) (length (r ∷ rs) - 1) r (omega arith) in cc)
highest_told (r ∷ rs) (Some b) n Tells is told read =
    let last = slice_get-get_or (r ∷ rs) (length (r ∷ rs) - 1) r (omega arith) in
    read b told ∙ ap (λ q. q.last) (same_Some _ _ (is ∙ last)) ∙ sym (highest_last (r ∷ rs) (length (r ∷ rs) - 1) r (omega arith))
