-- Which items a list has, once it is joined or cut. Assumes nothing.
use Rattle.std.proofs.Common.{◌≡◌, ℕ, zero, suc, ◌⊎◌, List, [], ◌∷◌, ◌++◌, take, drop, inl, inr, ⊎_elim}
use Rattle.channel.specs.Members.{In}

module _ {Item : Type 0} where
  -- an item of the joined lists is one of the first or one of the second
  pub in_append : (xs ys : List Item) (x : Item) → In x (xs ++ ys) → In x xs ⊎ In x ys
  in_append [] ys x h = inr h
  in_append (y ∷ xs) ys x (inl e) = inl (inl e)
  in_append (y ∷ xs) ys x (inr h) = ⊎_elim (λ l. inl (inr l)) (λ r. inr r) (in_append xs ys x h)

  pub in_append_left : (xs ys : List Item) (x : Item) → In x xs → In x (xs ++ ys)
  in_append_left [] ys x h = absurd h
  in_append_left (y ∷ xs) ys x (inl e) = inl e
  in_append_left (y ∷ xs) ys x (inr h) = inr (in_append_left xs ys x h)

  pub in_append_right : (xs ys : List Item) (x : Item) → In x ys → In x (xs ++ ys)
  in_append_right [] ys x h = h
  in_append_right (y ∷ xs) ys x h = inr (in_append_right xs ys x h)

  -- the one item of a list of one
  pub in_only : (y x : Item) → In x (y ∷ []) → x ≡ y
  in_only y x (inl e) = e
  in_only y x (inr h) = absurd h

  -- an item of the list with one more is one of the list or that one
  pub in_push : (xs : List Item) (y x : Item) → In x (xs ++ y ∷ []) → In x xs ⊎ (x ≡ y)
  in_push xs y x h = ⊎_elim (λ l. inl l) (λ r. inr (in_only y x r)) (in_append xs (y ∷ []) x h)

  -- a part of a list has no item that the list has not
  pub in_take : (n : ℕ) (xs : List Item) (x : Item) → In x (take n xs) → In x xs
  in_take zero xs x h = absurd h
  in_take (suc n) [] x h = absurd h
  in_take (suc n) (y ∷ xs) x (inl e) = inl e
  in_take (suc n) (y ∷ xs) x (inr h) = inr (in_take n xs x h)

  pub in_drop : (n : ℕ) (xs : List Item) (x : Item) → In x (drop n xs) → In x xs
  in_drop zero xs x h = h
  in_drop (suc n) [] x h = absurd h
  in_drop (suc n) (y ∷ xs) x h = inr (in_drop n xs x h)
