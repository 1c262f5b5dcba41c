-- What is found in a row is what the statement has of the session. Assumes nothing.
use Rattle.std.proofs.Common.{◌≡◌, ℕ, zero, suc, ◌+◌, ◌<◌, ◌≤◌, Bool, true, false, cond, not, List, [], ◌∷◌, ◌++◌, length, get_or, take, filter, Some, None, Option, MatchOption, slice_get, sym, refl, ap, ◌∙◌, ⊎_elim, arith}
use Rattle.std.proofs.lemmas.List.Filters.{length-filter_both}
use Rattle.std.proofs.lemmas.List.{append_assoc, flat_map_more, length-append, take_more}
use Rattle.std.proofs.lemmas.Bool.{cases_Bool, cond-false, cond-true}
use Rattle.std.specs.List.{flat_map, range_with_len, sum_by}
use Rattle.std.specs.Option.{option_map_or}
use Rattle.std.proofs.lemmas.List.Sums.{sum_by-cons}
use Rattle.std.proofs.lemmas.Option.{slice_get-get_or, slice_get_past}
use Rattle.draft.proofs.Chains.{whole}
use Rattle.event.specs.declared.events.Event.{Event}
use Rattle.ids.specs.declared.TransactionId.{TransactionId}
use Rattle.ledger.proofs.Ledgers.{sessions_length}
use Rattle.ledger.proofs.Looking.{missing_maximal}
use Rattle.ledger.specs.Contents.{events_in}
use Rattle.ledger.specs.Found.{Looks, Tells}
use Rattle.ledger.specs.Held.{billed, missing, missing_of, sessions}
use Rattle.ledger.specs.Rows.{runs_in}
use Rattle.ledger.specs.declared.found.Found.{Found}
use Rattle.ledger.specs.declared.found.Found.TheVariants as found
use Rattle.ledger.specs.declared.ledger.Ledger.{Ledger}
use Rattle.runs.proofs.Laws.{unique}
use Rattle.statement.specs.Lines.{billed_line, open_line}
use Rattle.statement.specs.Parts.{Payable, billed_at, found_text, part_lines, part_text, rows_text, text_at}
use Rattle.statement.specs.Statement.{bill_of, billed_sessions, lack_of, open_sessions}
use Rattle.statement.specs.declared.part.Part.{Part}
use Rattle.statement.specs.declared.part.Part.TheVariants.{Billed, Open}

module _ (events : List Event) (s : TransactionId) where
  pub payable : (f : Found) → Tells events s f → Payable f
  payable (found.Billed bill) t = t.limit
  payable (found.Open lack) t = tt

  pub told : (price : ℕ) (part : Part) (f : Found) → Tells events s f → found_text price part f ≡ part_text events price part s
  told price Billed (found.Billed bill) t = (λ i. billed_line price (t.id i) (t.energy_is i)) ∙ sym (cond-true _ _ _ t.whole)
  told price Billed (found.Open lack) t = sym (cond-false _ _ _ t.not_whole)
  told price Open (found.Billed bill) t = sym (cond-true _ _ _ t.whole)
  told price Open (found.Open lack) t =
      let are = unique (missing events s) (runs_in lack.missing) (missing_of events s) t.missing_are (missing_maximal events s) in
      (λ i. open_line (t.id i) (t.count_is i) (t.end_is i) (are i)) ∙ sym (cond-false _ _ _ t.not_whole)

-- any session, for reading a list within its length
abbrev pub some_id : TransactionId
some_id = record { station = 0; session = 0 }

abbrev pub is_bill : Found → Bool
is_bill (found.Billed bill) = true
is_bill (found.Open lack) = false

-- what is found at a place is what the statement has of the session there
module _ (events : List Event) (place : ℕ) where
  bill_here : (f : Found) → Looks events place (Some f) → is_bill f ≡ billed_at events place
  bill_here f at = here f (at.1 some_id) ∙ sym (ap (λ o. option_map_or (billed events) o false) (slice_get-get_or (sessions events) place some_id at.0))
    where
      here : (g : Found) → Tells events (get_or (sessions events) place some_id) g → is_bill g ≡ billed events (get_or (sessions events) place some_id)
      here (found.Billed bill) t = sym t.whole
      here (found.Open lack) t = sym t.not_whole

  pub billed_told : (row : Option Found) (r : Bool) (Says : Found → Type 0) → Looks events place row → MatchOption row (r ≡ false) Says → ((f : Found) → Says f → r ≡ is_bill f) → r ≡ billed_at events place
  billed_told None r Says past is says = is ∙ sym (ap (λ o. option_map_or (billed events) o false) (slice_get_past (sessions events) place past))
  billed_told (Some f) r Says at is says = says f is ∙ bill_here f at

  module _ (price : ℕ) (part : Part) where
    pub text_told : (f : Found) → Looks events place (Some f) → found_text price part f ≡ text_at events price part place
    text_told f at = told events (get_or (sessions events) place some_id) price part f (at.1 some_id) ∙ sym (ap (λ o. option_map_or (part_text events price part) o []) (slice_get-get_or (sessions events) place some_id at.0))

-- the line of what a session lacks, piece by piece
abbrev pub lack_pieces : (count end stretches : List ℕ) → List (List ℕ)
lack_pieces count end stretches = (32 ∷ count) ∷ (32 ∷ []) ∷ end ∷ (32 ∷ []) ∷ stretches ∷ (10 ∷ []) ∷ []

pub lack_laid : (front count end stretches : List ℕ) → front ++ whole (lack_pieces count end stretches) ≡ front ++ (32 ∷ count) ++ (32 ∷ end) ++ (32 ∷ stretches) ++ 10 ∷ []
lack_laid front count end stretches = simp append_assoc

-- a ledger has at most 1,024 rows
pub few_sessions : (l : Ledger) → length (sessions (events_in l)) ≤ 1024
few_sessions l = omega (arith, sessions_length l, l.fits)

-- one row more
module _ (events : List Event) (price : ℕ) (part : Part) where
  pub rows_more : (place : ℕ) → place < length (sessions events) → rows_text events price part (take (place + 1) (sessions events)) ≡ rows_text events price part (take place (sessions events)) ++ text_at events price part place
  rows_more place h =
      ap (rows_text events price part) (take_more (sessions events) place some_id h)
      ∙ sym (flat_map_more (part_text events price part) [] (take place (sessions events)) (get_or (sessions events) place some_id))
      ∙ ap (λ o. rows_text events price part (take place (sessions events)) ++ option_map_or (part_text events price part) o []) (sym (slice_get-get_or (sessions events) place some_id h))

  pub size_more : (place : ℕ) → place < length (sessions events) → length (rows_text events price part (take (place + 1) (sessions events))) ≡ length (rows_text events price part (take place (sessions events))) + length (text_at events price part place)
  size_more place h = ap length (rows_more place h) ∙ length-append (rows_text events price part (take place (sessions events))) (text_at events price part place)

  -- the first rows take no more bytes than all
  pub rows_below : (ss : List TransactionId) (i : ℕ) → length (rows_text events price part (take i ss)) ≤ length (rows_text events price part ss)
  rows_below ss zero = omega arith
  rows_below [] (suc i) = omega arith
  rows_below (s ∷ ss) (suc i) =
      let f = part_text events price part in
      omega (arith, rows_below ss i, length-append (f s) (flat_map f (take i ss)), length-append (f s) (flat_map f ss))

-- the billed places are as many as the billed sessions
count_from : (p : TransactionId → Bool) (ss : List TransactionId) (a : ℕ) (q : ℕ → Bool) → ((k : ℕ) → q (a + k) ≡ option_map_or p (slice_get ss k) false) → length (filter q (range_with_len a (length ss))) ≡ length (filter p ss)
count_from p [] a q same = refl
count_from p (s ∷ ss) a q same =
    let rest = count_from p ss (a + 1) q (λ k. ap q (omega arith) ∙ same (suc k)) in
    let here : q a ≡ p s = ap q (omega arith) ∙ same 0 in
    ⊎_elim
    (λ y. ap length (cond-true _ _ _ (here ∙ y)) ∙ ap suc rest ∙ sym (ap length (cond-true _ _ _ y)))
    (λ n. ap length (cond-false _ _ _ (here ∙ n)) ∙ rest ∙ sym (ap length (cond-false _ _ _ n)))
    (cases_Bool (p s))

pub places_billed : (events : List Event) → length (filter (billed_at events) (range_with_len 0 (length (sessions events)))) ≡ length (filter (billed events) (sessions events))
places_billed events = count_from (billed events) (sessions events) 0 (billed_at events) (λ k. ap (billed_at events) (omega arith))

-- the places' lines are as long as the sessions'
size_from : (f : TransactionId → List ℕ) (ss : List TransactionId) (a : ℕ) (q : ℕ → List ℕ) → ((k : ℕ) → q (a + k) ≡ option_map_or f (slice_get ss k) []) → sum_by (λ k. length (q k)) (range_with_len a (length ss)) ≡ length (flat_map f ss)
size_from f [] a q same = refl
size_from f (s ∷ ss) a q same =
    let rest = size_from f ss (a + 1) q (λ k. ap q (omega arith) ∙ same (suc k)) in
    let here : q a ≡ f s = ap q (omega arith) ∙ same 0 in
    sum_by-cons (λ k. length (q k)) a (range_with_len (a + 1) (length ss)) ∙ omega (arith, rest, ap length here, length-append (f s) (flat_map f ss))

pub places_size : (events : List Event) (price : ℕ) (part : Part) → sum_by (λ k. length (text_at events price part k)) (range_with_len 0 (length (sessions events))) ≡ length (part_lines events price part)
places_size events price part = size_from (part_text events price part) (sessions events) 0 (text_at events price part) (λ k. ap (text_at events price part) (omega arith))

-- the lines of a part are those of its sessions
module _ (events : List Event) (price : ℕ) where
  pub billed_rows : (ss : List TransactionId) → rows_text events price Billed ss ≡ flat_map (bill_of events price) (filter (billed events) ss)
  billed_rows [] = refl
  billed_rows (s ∷ ss) =
      ⊎_elim
      (λ y. (λ i. cond (y i) (bill_of events price s) [] ++ billed_rows ss i) ∙ ap (flat_map (bill_of events price)) (sym (cond-true _ _ _ y)))
      (λ n. (λ i. cond (n i) (bill_of events price s) [] ++ billed_rows ss i) ∙ ap (flat_map (bill_of events price)) (sym (cond-false _ _ _ n)))
      (cases_Bool (billed events s))

  pub open_rows : (ss : List TransactionId) → rows_text events price Open ss ≡ flat_map (lack_of events) (filter (λ s. not (billed events s)) ss)
  open_rows [] = refl
  open_rows (s ∷ ss) =
      ⊎_elim
      (λ y. (λ i. cond (y i) [] (lack_of events s) ++ open_rows ss i) ∙ ap (flat_map (lack_of events)) (sym (cond-false _ _ _ (ap not y))))
      (λ n. (λ i. cond (n i) [] (lack_of events s) ++ open_rows ss i) ∙ ap (flat_map (lack_of events)) (sym (cond-true _ _ _ (ap not n))))
      (cases_Bool (billed events s))

-- each row is billed or open
pub both_counts : (events : List Event) → length (billed_sessions events) + length (open_sessions events) ≡ length (sessions events)
both_counts events = length-filter_both (billed events) (λ s. not (billed events s)) (λ _. refl) (sessions events)
