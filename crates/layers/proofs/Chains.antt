-- What a row of accepted sends does to the channel below. Assumes nothing.
use Rattle.std.proofs.Common.{◌≡◌, ℕ, ◌+◌, ◌<◌, ◌≤◌, ◌⊎◌, List, [], ◌∷◌, ◌++◌, length, get_or, take, Ok, Result, sym, refl, ap, subst, inl, inr, ⊎_elim, arith}
use Rattle.std.proofs.lemmas.List.{take_more}
use Rattle.channel.specs.Laws.{Sends}
use Rattle.channel.specs.Members.{In}
use Rattle.channel.specs.declared.channel.Channel.{Ghosts as Promises}
use Rattle.channel.specs.declared.faults.Full.{Full}
use Rattle.layers.specs.Below.{Sent, Took, free_of, waiting_in}

module _ {C Item : Type 0} (channel : Promises C Item) where
  -- one more accepted send after a row of them
  pub took_more : (items : List Item) (item : Item) (b b' b'' : C) → Took channel b items b' → Sent channel b' item (Ok tt) b'' → Took channel b (items ++ item ∷ []) b''
  took_more [] item b b' b'' e s = (b'', subst (λ c. Sent channel c item (Ok tt) b'') e s, refl)
  took_more (x ∷ items) item b b' b'' t s = (t.0, t.1, took_more items item t.0 b' b'' t.2 s)

  -- the free count falls by at most one for each item
  pub took_free : (items : List Item) (b b' : C) → Took channel b items b' → free_of channel b ≤ free_of channel b' + length items
  took_free [] b b' e = omega (arith, ap (λ c. free_of channel c) e)
  took_free (x ∷ items) b b' t = omega (arith, t.1.law.falls, took_free items t.0 b' t.2)

  -- below was open for the first of them
  pub took_open : (items : List Item) (b b' : C) → 0 < length items → Took channel b items b' → 0 < free_of channel b
  took_open [] b b' h t = absurd (omega arith)
  took_open (x ∷ items) b b' h t = t.1.law.was_open

  -- what waits below waited there before or is one of them
  pub took_waits : (items : List Item) (x : Item) (b b' : C) → Took channel b items b' → In x (waiting_in channel b') → In x (waiting_in channel b) ⊎ In x items
  took_waits [] x b b' e h = inl (subst (λ c. In x (waiting_in channel c)) e h)
  took_waits (item ∷ items) x b b' t h =
      ⊎_elim
      (λ m. ⊎_elim (λ before. inl before) (λ e. inr (inl e)) (t.1.law.waits x m))
      (λ l. inr (inr l))
      (took_waits items x t.0 b' t.2 h)

  -- below took the first places of a list, and then accepted what stands next
  pub took_next : (places : List Item) (i : ℕ) (d : Item) (b b' b'' : C) (r : Result (Unit {0}) Full) (same : List Item) → same ≡ places → i < length places
      → Took channel b (take i places) b'
      → Sends (channel.meaning b') (get_or same i d) r (channel.meaning b'') → channel.sends b' (get_or same i d) r b'' → r ≡ Ok tt
      → Took channel b (take (i + 1) places) b''
  took_next places i d b b' b'' r same e h t law rule ok =
      let sent : Sent channel b' (get_or same i d) r b'' = record { law = law; rule = rule } in
      let taken : Sent channel b' (get_or places i d) (Ok tt) b'' =
      subst (λ ps. Sent channel b' (get_or ps i d) (Ok tt) b'') e (subst (λ q. Sent channel b' (get_or same i d) q b'') ok sent) in
      subst (λ items. Took channel b items b'') (sym (take_more places i d h)) (took_more (take i places) (get_or places i d) b b' b'' t taken)
