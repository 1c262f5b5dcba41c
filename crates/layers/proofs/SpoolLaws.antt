-- A spool's own rules keep the laws of every channel. Assumes nothing.
use Rattle.std.proofs.Common.{◌≡◌, ℕ, zero, suc, ◌+◌, ◌-◌, ◌<◌, ◌≤◌, ◌⊎◌, List, [], ◌∷◌, ◌++◌, length, IfSome, Some, None, Ok, Err, Option, Result, sym, refl, ap, ◌∙◌, subst, inl, inr, ⊎_elim, arith, length-append}
use Rattle.std.proofs.lemmas.List.{length_push}
use Rattle.channel.specs.Laws.{Accepted, Receives, Refused, Sends}
use Rattle.channel.specs.Members.{In}
use Rattle.channel.specs.declared.channel.Channel.{Ghosts as Promises}
use Rattle.channel.specs.declared.faults.Full.{Full}
use Rattle.channel.proofs.Members.{in_append, in_append_left, in_append_right, in_push}
use Rattle.layers.specs.Below.{Took, free_of, waiting_in}
use Rattle.layers.specs.Limits.{spool_places}
use Rattle.layers.specs.Spool.{Goes, Passes, SpoolReceives, SpoolSends, Spooled, TurnedAway, spool_meaning}
use Rattle.layers.proofs.Chains.{took_free, took_open, took_waits}

-- the layer in a refusal, and 0 where there is none
abbrev layer_in : Result (Unit {0}) Full → ℕ
layer_in (Ok u) = 0
layer_in (Err fault) = fault.layer

ok_is_not_err : {fault : Full} → ◌≡◌ {A = Result (Unit {0}) Full} (Ok tt) (Err fault) → ⊥
ok_is_not_err {fault} e = let z : ◌≡◌ {A = ℕ} 0 1 = cc in omega arith

module _ {C Item : Type 0} (channel : Promises C Item) where
  -- the free places of a spool and of the channel below together
  abbrev pub sum : Spooled C Item → ℕ
  sum s = spool_places - length s.held + free_of channel s.below

  -- as many were held as were passed down and are held still
  pub passes_long : {before after : Spooled C Item} (h : Passes channel before after) → length before.held ≡ length h.passed + length after.held
  passes_long {before} {after} h = ap length h.oldest ∙ length-append h.passed after.held

  -- passing down loses no free place
  pub passes_free : {before after : Spooled C Item} (h : Passes channel before after) → length before.held ≤ spool_places → sum before ≤ sum after
  passes_free {before} {after} h l = omega (arith, passes_long h, took_free channel h.passed before.below after.below h.down)

  -- passing down brings in nothing
  pub passes_waits : {before after : Spooled C Item} (h : Passes channel before after) (x : Item)
      → In x (spool_meaning channel after).waiting → In x (spool_meaning channel before).waiting
  passes_waits {before} {after} h x m =
      ⊎_elim below held (in_append (waiting_in channel after.below) after.held x m)
    where
      of_held : In x (h.passed ++ after.held) → In x (waiting_in channel before.below ++ before.held)
      of_held k = in_append_right (waiting_in channel before.below) before.held x (subst (In x) (sym h.oldest) k)

      below : In x (waiting_in channel after.below) → In x (waiting_in channel before.below ++ before.held)
      below k =
          ⊎_elim
          (λ b. in_append_left (waiting_in channel before.below) before.held x b)
          (λ p. of_held (in_append_left h.passed after.held x p))
          (took_waits channel h.passed x before.below after.below h.down k)

      held : In x after.held → In x (waiting_in channel before.below ++ before.held)
      held k = of_held (in_append_right h.passed after.held x k)

  -- where nothing was passed down all is as it was
  none_passed : {before after : Spooled C Item} (h : Passes channel before after) → length h.passed ≡ 0 → after ≡ before
  none_passed {before} {after} h e = from h.passed e h.down h.oldest
    where
      from : (items : List Item) → length items ≡ 0 → Took channel before.below items after.below → before.held ≡ items ++ after.held → after ≡ before
      from [] z t o = λ i. record { below = t i; held = sym o i }
      from (x ∷ xs) z t o = absurd (omega arith)

  -- below was open before, or had its free count left as it was
  passes_open : {before after : Spooled C Item} (h : Passes channel before after) → (0 < free_of channel before.below) ⊎ (after ≡ before)
  passes_open {before} {after} h =
      ⊎_elim
      (λ z. inr (none_passed h z))
      (λ p. inl (took_open channel h.passed before.below after.below p h.down))
      (cases (length h.passed))
    where
      cases : (n : ℕ) → (n ≡ 0) ⊎ (0 < n)
      cases zero = inl refl
      cases (suc n) = inr (omega arith)

  -- the item of a send is passed on or held, and nothing else comes in
  goes_waits : (before : Spooled C Item) (item : Item) (after : Spooled C Item) → Goes channel before item (Ok tt) after → (x : Item)
      → In x (spool_meaning channel after).waiting → In x (spool_meaning channel before).waiting ⊎ (x ≡ item)
  goes_waits before item after (inl f) x m =
      ⊎_elim
      (λ b. ⊎_elim (λ w. inl (in_append_left (waiting_in channel before.below) before.held x w)) (λ e. inr e) (f.sent.law.waits x b))
      (λ k. inl (in_append_right (waiting_in channel before.below) before.held x (subst (In x) f.same k)))
      (in_append (waiting_in channel after.below) after.held x m)
  goes_waits before item after (inr (inl h)) x m =
      ⊎_elim
      (λ b. inl (in_append_left (waiting_in channel before.below) before.held x (subst (λ c. In x (waiting_in channel c)) h.same b)))
      (λ k. ⊎_elim (λ w. inl (in_append_right (waiting_in channel before.below) before.held x w)) (λ e. inr e) (in_push before.held item x (subst (In x) h.newest k)))
      (in_append (waiting_in channel after.below) after.held x m)
  goes_waits before item after (inr (inr t)) x m = absurd (ok_is_not_err t.by)

  -- holding takes one place of the spool, and passing on at most one below
  goes_free : (before : Spooled C Item) (item : Item) (after : Spooled C Item) → Goes channel before item (Ok tt) after → sum before ≤ sum after + 1
  goes_free before item after (inl f) = omega (arith, f.sent.law.falls, ap length f.same)
  goes_free before item after (inr (inl h)) =
      omega (arith, ap (λ c. free_of channel c) h.same, ap length h.newest ∙ length_push before.held item, h.room)
  goes_free before item after (inr (inr t)) = absurd (ok_is_not_err t.by)

  -- an accepted send had a place below or in the spool
  goes_room : (before : Spooled C Item) (item : Item) (after : Spooled C Item) → Goes channel before item (Ok tt) after
      → (0 < free_of channel before.below) ⊎ (length before.held < spool_places)
  goes_room before item after (inl f) = inl f.was_open
  goes_room before item after (inr (inl h)) = inr h.room
  goes_room before item after (inr (inr t)) = absurd (ok_is_not_err t.by)

  -- a refused send found below closed and every place taken, and left all as it was
  goes_refused : (before : Spooled C Item) (item : Item) (fault : Full) (after : Spooled C Item) → Goes channel before item (Err fault) after
      → TurnedAway channel before item (Err fault) after
  goes_refused before item fault after (inl f) = absurd (omega (arith, f.was_open, f.sent.law.closed))
  goes_refused before item fault after (inr (inl h)) = absurd (ok_is_not_err (sym h.done))
  goes_refused before item fault after (inr (inr t)) = t

  accepted : (before : Spooled C Item) (item : Item) (after : Spooled C Item) → length before.held ≤ spool_places
      → SpoolSends channel before item (Ok tt) after → Accepted (spool_meaning channel before) item (spool_meaning channel after)
  accepted before item after l s =
      record {
        was_open = omega (arith, room (passes_open s.passes) (goes_room s.passing item after s.goes));
        waits = λ x m.
            ⊎_elim (λ w. inl (passes_waits s.passes x w)) (λ e. inr e) (goes_waits s.passing item after s.goes x m);
        falls = omega (arith, passes_free s.passes l, goes_free s.passing item after s.goes);
      }
    where
      room : (0 < free_of channel before.below) ⊎ (s.passing ≡ before)
          → (0 < free_of channel s.passing.below) ⊎ (length s.passing.held < spool_places) → 0 < sum before
      room (inl b) k = omega arith
      room (inr e) (inl b) = omega (arith, ap (λ p. free_of channel p.below) e)
      room (inr e) (inr h) = omega (arith, ap (λ p. length p.held) e)

  refused : (before : Spooled C Item) (item : Item) (fault : Full) (after : Spooled C Item) → length before.held ≤ spool_places
      → SpoolSends channel before item (Err fault) after → Refused (spool_meaning channel before) fault.layer (spool_meaning channel after)
  refused before item fault after l s =
      let t = goes_refused s.passing item fault after s.goes in
      let idle : s.passing ≡ before = none_passed s.passes (omega (arith, passes_long s.passes, t.full)) in
      let same : after ≡ before = t.same ∙ idle in
      record {
        closed = omega (arith, t.closed, t.full, ap (λ p. sum p) idle);
        by = ap (λ r. layer_in r) t.by;
        same_waiting = ap (λ p. (spool_meaning channel p).waiting) same;
        same_free = ap (λ p. (spool_meaning channel p).free) same;
      }

  pub send_law : (before : Spooled C Item) (item : Item) (r : Result (Unit {0}) Full) (after : Spooled C Item) → length before.held ≤ spool_places
      → SpoolSends channel before item r after → Sends (spool_meaning channel before) item r (spool_meaning channel after)
  send_law before item (Ok u) after l s = accepted before item after l s
  send_law before item (Err fault) after l s = refused before item fault after l s

  pub receive_law : (before : Spooled C Item) (r : Option Item) (after : Spooled C Item) → length before.held ≤ spool_places
      → SpoolReceives channel before r after → Receives (spool_meaning channel before) r (spool_meaning channel after)
  receive_law before r after l s =
      record {
        gives = given r s.got.law.gives;
        waits = λ x m. passes_waits s.passes x (received x m);
        free = omega (arith, passes_free s.passes l, s.got.law.free, ap length s.same);
      }
    where
      -- what waits below waits in the spool
      low : (x : Item) → In x (waiting_in channel s.passing.below) → In x (spool_meaning channel s.passing).waiting
      low x k = in_append_left (waiting_in channel s.passing.below) s.passing.held x k

      received : (x : Item) → In x (spool_meaning channel after).waiting → In x (spool_meaning channel s.passing).waiting
      received x m =
          ⊎_elim
          (λ b. low x (s.got.law.waits x b))
          (λ k. in_append_right (waiting_in channel s.passing.below) s.passing.held x (subst (In x) s.same k))
          (in_append (waiting_in channel after.below) after.held x m)

      given : (r : Option Item) → IfSome r (λ x. In x (waiting_in channel s.passing.below)) → IfSome r (λ x. In x (spool_meaning channel before).waiting)
      given None g = tt
      given (Some x) g = passes_waits s.passes x (low x g)

-- a spool's parts as they stand after a call
abbrev pub laid : {C Item : Type 0} → (below : C) (held : List Item) → Spooled C Item
laid below held = record { below = below; held = held }
