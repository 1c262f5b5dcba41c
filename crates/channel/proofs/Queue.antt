-- What waits in a ring after a place was written, or the first moved on. Assumes nothing.
use Rattle.std.proofs.Common.{◌≡◌, ℕ, zero, suc, ◌+◌, ◌-◌, ◌<◌, ◌≤◌, min, ◌⊎◌, List, [], ◌∷◌, ◌++◌, length, get_or, take, drop, set, sym, refl, ap, ◌∙◌, subst, inl, inr, append_assoc, append-nil, arith, length-append, length-drop, take-append-drop, length-take, drop-cons, get_or-take, take-suc, take-take, drop-set-lt}
use lib.Seq.{drop-append-le, take-append-add, take-append_seam, take-set-lt, take-set-le, drop-set-add, set-append_left, take-append-le, take-length, drop-length}
use Rattle.std.proofs.lemmas.List.{set-append_right, take_more_set}
use Rattle.channel.specs.Places.{most_places, places, queue, turned}
use Rattle.channel.specs.Ring.{Contents}

module _ {Item : Type 0} where
  -- turning keeps the length
  pub length_turned : (i : ℕ) (xs : List Item) → length (turned i xs) ≡ length xs
  length_turned i xs = simp (length-append, length-drop, length-take) (omega arith)

  -- as many wait as are counted, and no more than there are places
  pub length_queue : (memory : List Item) (first count : ℕ) → length (queue memory first count) ≡ min count (places memory)
  length_queue memory first count =
      length-take count (turned first (take most_places memory))
      ∙ omega (arith, length_turned first (take most_places memory), length-take most_places memory)

  -- a count is as good as the number of those that wait
  pub queue_count : (memory : List Item) (first count : ℕ) → queue memory first count ≡ queue memory first (length (queue memory first count))
  queue_count memory first count = take_again count (turned first (take most_places memory))
    where
      take_again : (n : ℕ) (xs : List Item) → take n xs ≡ take (length (take n xs)) xs
      take_again zero xs = refl
      take_again (suc n) [] = refl
      take_again (suc n) (x ∷ xs) = ap (λ l. x ∷ l) (take_again n xs)

  -- no turn past the end: a write at place first + count is one at place count of what is read from first on
  turned_set_ahead : (xs : List Item) (first count : ℕ) (item : Item) → first + count < length xs
      → turned first (set xs (first + count) item) ≡ set (turned first xs) count item
  turned_set_ahead xs first count item h =
      ap (λ l. l ++ take first (set xs (first + count) item)) (drop-set-add first xs count item)
      ∙ ap (λ l. set (drop first xs) count item ++ l) (take-set-le first xs (first + count) item (omega arith))
      ∙ sym (set-append_left (drop first xs) (take first xs) count item (omega (arith, length-drop first xs)))

  -- past the end: the place is counted on from the start
  turned_set_round : (xs : List Item) (first count place : ℕ) (item : Item) → first ≤ length xs → place < first → place + length xs ≡ first + count
      → turned first (set xs place item) ≡ set (turned first xs) count item
  turned_set_round xs first count place item l h e =
      ap (λ l. l ++ take first (set xs place item)) (drop-set-lt first xs place item h)
      ∙ ap (λ l. drop first xs ++ l) (take-set-lt first xs place item h)
      ∙ ap (λ i. drop first xs ++ set (take first xs) i item) {x = place} {y = count - (length xs - first)} (omega arith)
      ∙ sym (set-append_right (drop first xs) (take first xs) (length xs - first) count item (length-drop first xs) (omega arith))

  -- the place after the last that waits, round the used places
  abbrev pub End : (memory : List Item) (first count place : ℕ) → Type 0
  End memory first count place =
      ((first + count < places memory) × (place ≡ first + count))
      ⊎ ((places memory ≤ first + count) × (place + places memory ≡ first + count))

  -- an item written after the last that waits then waits last
  pub queue_put : (memory : List Item) (first count place : ℕ) (item : Item)
      → first < places memory → count < places memory → End memory first count place
      → queue (set memory place item) first (count + 1) ≡ queue memory first count ++ item ∷ []
  queue_put memory first count place item f c e =
      let xs = take most_places memory in
      let long : length xs ≡ places memory = length-take most_places memory ∙ omega arith in
      let low : place < most_places = within e in
      ap (λ l. take (count + 1) (turned first l)) (take-set-lt most_places memory place item low)
      ∙ ap (λ l. take (count + 1) l) (written xs long e)
      ∙ take_more_set (turned first xs) count item (omega (arith, long, length_turned first xs))
    where
      within : End memory first count place → place < most_places
      within (inl h) = omega arith
      within (inr h) = omega arith

      written : (xs : List Item) → length xs ≡ places memory → End memory first count place
          → turned first (set xs place item) ≡ set (turned first xs) count item
      written xs long (inl h) =
          subst (λ p. turned first (set xs p item) ≡ set (turned first xs) count item) (sym h.1) (turned_set_ahead xs first count item (omega (arith, long)))
      written xs long (inr h) = turned_set_round xs first count place item (omega (arith, long)) (omega arith) (omega (arith, long))

  -- the place that is first once the first was taken, round the used places
  abbrev pub Next : (memory : List Item) (first next : ℕ) → Type 0
  Next memory first next =
      ((first + 1 < places memory) × (next ≡ first + 1))
      ⊎ ((places memory ≤ first + 1) × (next ≡ 0))

  -- what is read from the next place on ends with what stood first
  turned_next : (xs : List Item) (first next : ℕ) (d : Item) → first < length xs
      → ((first + 1 < length xs) × (next ≡ first + 1)) ⊎ ((length xs ≤ first + 1) × (next ≡ 0))
      → turned next xs ≡ (drop (suc first) xs ++ take first xs) ++ get_or xs first d ∷ []
  turned_next xs first next d l (inl h) =
      ap (λ n. turned n xs) {x = next} {y = suc first} (omega arith)
      ∙ ap (λ t. drop (suc first) xs ++ t) (take-suc xs first d l)
      ∙ sym (append_assoc (drop (suc first) xs) (take first xs) (get_or xs first d ∷ []))
  turned_next xs first next d l (inr h) =
      let all : length xs ≡ suc first = omega arith in
      ap (λ n. turned n xs) h.1
      ∙ append-nil xs
      ∙ sym (take-length xs)
      ∙ ap (λ n. take n xs) all
      ∙ take-suc xs first d l
      ∙ ap (λ t. (t ++ take first xs) ++ get_or xs first d ∷ []) (sym (ap (λ n. drop n xs) (sym all) ∙ drop-length xs))

  -- what stood first waited first, and the rest waits from the next place on
  pub queue_take : (memory : List Item) (first count next : ℕ) (d : Item)
      → first < places memory → 0 < count → count ≤ places memory → Next memory first next
      → queue memory first count ≡ get_or memory first d ∷ queue memory next (count - 1)
  queue_take memory first count next d f z c e =
      let xs = take most_places memory in
      let long : length xs ≡ places memory = length-take most_places memory ∙ omega arith in
      let rest = drop (suc first) xs ++ take first xs in
      let longer : count - 1 ≤ length rest = simp (length-append, length-drop, length-take) (omega (arith, long)) in
      ap (λ n. take n (turned first xs)) {x = count} {y = suc (count - 1)} (omega arith)
      ∙ ap (λ t. take (suc (count - 1)) (t ++ take first xs)) (drop-cons xs first d (omega (arith, long)))
      ∙ ap (λ y. y ∷ take (count - 1) rest) (get_or-take most_places memory first d (omega arith))
      ∙ ap (λ t. get_or memory first d ∷ t) (sym (ap (λ t. take (count - 1) t) (turned_next xs first next d (omega (arith, long)) (along long e)) ∙ take-append-le (count - 1) rest (get_or xs first d ∷ []) longer))
    where
      along : length (take most_places memory) ≡ places memory → Next memory first next
          → ((first + 1 < length (take most_places memory)) × (next ≡ first + 1)) ⊎ ((length (take most_places memory) ≤ first + 1) × (next ≡ 0))
      along long (inl h) = inl (omega (arith, long), h.1)
      along long (inr h) = inr (omega (arith, long), h.1)

-- the contents of a ring over the memory whose first item stands at first and where count items wait
abbrev pub laid : {Item : Type 0} → (memory : List Item) (first count : ℕ) → Contents Item
laid memory first count = record { memory = memory; waiting = queue memory first count }

module _ {Item : Type 0} where
  -- what waits does not reach the end of the places
  pub queue_ahead : (memory : List Item) (first count : ℕ) → first + count ≤ places memory
      → take count (drop first memory) ≡ queue memory first count
  queue_ahead memory first count h =
      let xs = take most_places memory in
      ap (λ l. take count (drop first l)) (sym (take-append-drop most_places memory))
      ∙ ap (λ l. take count l) (drop-append-le first xs (drop most_places memory) (omega (arith, length-take most_places memory)))
      ∙ take-append-le count (drop first xs) (drop most_places memory) (omega (arith, length-take most_places memory, length-drop first xs))
      ∙ sym (take-append-le count (drop first xs) (take first xs) (omega (arith, length-take most_places memory, length-drop first xs)))

  -- what waits goes to the end of the places and on from their start
  pub queue_round : (memory : List Item) (first count : ℕ) → first ≤ places memory → count ≤ places memory → places memory ≤ first + count
      → take (places memory - first) (drop first memory) ++ take (first + count - places memory) memory ≡ queue memory first count
  queue_round memory first count f c h =
      let xs = take most_places memory in
      let long : length xs ≡ places memory = length-take most_places memory ∙ omega arith in
      let n = first + count - places memory in
      let front : take (places memory - first) (drop first memory) ≡ drop first xs =
      queue_ahead memory first (places memory - first) (omega arith)
      ∙ ap (λ k. take k (turned first xs)) {x = places memory - first} {y = length (drop first xs)} (omega (arith, long, length-drop first xs))
      ∙ take-append_seam (drop first xs) (take first xs) in
      ap (λ l. l ++ take n memory) front
      ∙ ap (λ l. drop first xs ++ l) (sym (take-take n most_places memory (omega arith)) ∙ sym (take-take n first xs (omega arith)))
      ∙ sym (take-append-add (drop first xs) (take first xs) n)
      ∙ ap (λ k. take k (turned first xs)) {x = length (drop first xs) + n} {y = count} (omega (arith, long, length-drop first xs))
