-- A repeater's own rules keep the laws of every channel. Assumes nothing.
use Rattle.std.proofs.Common.{◌≡◌, ℕ, zero, suc, ◌+◌, ◌/◌, ◌<◌, ◌≤◌, eqb, ◌⊎◌, replicate, Ok, Err, Option, Result, sym, ap, ◌∙◌, subst, inl, inr, ⊎_elim, le_trans, le-div_iff_mul-le, div-mul-le_self, arith}
use native.Mathlib.Nat.{add-div_right, div-eq_of_lt, zero-div}
use lib.ListN.{length-replicate}
use Rattle.channel.specs.Laws.{Receives, Sends}
use Rattle.channel.specs.Members.{In}
use Rattle.channel.specs.declared.channel.Channel.{Ghosts as Promises}
use Rattle.channel.specs.declared.faults.Full.{Full}
use Rattle.layers.specs.Below.{Got, Sent, Took, free_of, refuser_of, waiting_in}
use Rattle.layers.specs.Limits.{repeater_layer}
use Rattle.layers.specs.Repeater.{ClosedBelow, RepeaterSends, repeater_meaning}
use Rattle.layers.proofs.Chains.{took_free, took_more, took_open, took_waits}
use Rattle.std.proofs.lemmas.List.{replicate_more}
use Rattle.std.proofs.lemmas.Bool.{cond-false, cond-true, eq-eqb, ne_eqb}

-- an item among copies of one is that one
in_copies : {Item : Type 0} (n : ℕ) (item x : Item) → In x (replicate n item) → x ≡ item
in_copies zero item x h = absurd h
in_copies (suc n) item x (inl e) = e
in_copies (suc n) item x (inr h) = in_copies n item x h

div_mono : (n a b : ℕ) → 1 ≤ n → a ≤ b → a / n ≤ b / n
div_mono n a b h l = (le-div_iff_mul-le h).1 (le_trans (div-mul-le_self a n) l)

-- n less below costs one above
div_falls : (n a b : ℕ) → 1 ≤ n → a ≤ b + n → a / n ≤ b / n + 1
div_falls n a b h l = subst (λ q. a / n ≤ q) (add-div_right b h) (div_mono n a (b + n) h l)

div_some : (n a : ℕ) → 1 ≤ n → n ≤ a → 0 < a / n
div_some n a h l = (le-div_iff_mul-le h).1 (omega arith)

module _ {C Item : Type 0} (channel : Promises C Item) (times : ℕ) (some : 1 ≤ times) where
  pub send_law : (b : C) (item : Item) (r : Result (Unit {0}) Full) (b' : C)
      → RepeaterSends channel times b item r b' → Sends (repeater_meaning channel times b) item r (repeater_meaning channel times b')
  send_law b item (Ok u) b' h =
      let copies = replicate times item in
      record {
        was_open = div_some times (free_of channel b) some h.room;
        waits = λ x m. ⊎_elim (λ w. inl w) (λ k. inr (in_copies times item x k)) (took_waits channel copies x b b' h.down m);
        falls = div_falls times (free_of channel b) (free_of channel b') some (omega (arith, took_free channel copies b b' h.down, length-replicate times item));
      }
  send_law b item (Err fault) b' (inl h) =
      record {
        closed = ap (λ f. f / times) h.closed ∙ zero-div times;
        by = h.refused.law.by ∙ sym (cond-true (eqb (free_of channel b) 0) (refuser_of channel b) repeater_layer (eq-eqb (free_of channel b) 0 h.closed));
        same_waiting = h.refused.law.same_waiting;
        same_free = ap (λ f. f / times) h.refused.law.same_free;
      }
  send_law b item (Err fault) b' (inr h) =
      record {
        closed = div-eq_of_lt h.short;
        by = h.by ∙ sym (cond-false (eqb (free_of channel b) 0) (refuser_of channel b) repeater_layer (ne_eqb (free_of channel b) 0 (λ e. omega (arith, h.was_open))));
        same_waiting = ap (λ c. waiting_in channel c) h.same;
        same_free = ap (λ c. free_of channel c / times) h.same;
      }

  pub receive_law : (b : C) (r : Option Item) (b' : C)
      → Got channel b r b' → Receives (repeater_meaning channel times b) r (repeater_meaning channel times b')
  receive_law b r b' h = record { gives = h.law.gives; waits = h.law.waits; free = div_mono times (free_of channel b) (free_of channel b') some h.law.free }

  -- below is closed, or open for all the copies: it refuses none but the first, and that only where it is closed
  pub first_refused : (copies : ℕ) (b mid b' : C) (item : Item) (fault : Full) → copies < times → (free_of channel b ≡ 0) ⊎ (times ≤ free_of channel b)
      → Took channel b (replicate copies item) mid → Sent channel mid item (Err fault) b' → ClosedBelow channel times b item fault b'
  first_refused zero b mid b' item fault l f t s =
      let here = subst (λ c. Sent channel c item (Err fault) b') t s in record { closed = here.law.closed; refused = here }
  first_refused (suc n) b mid b' item fault l (inl z) t s =
      absurd (omega (arith, took_open channel (replicate (suc n) item) b mid (omega arith) t))
  first_refused (suc n) b mid b' item fault l (inr r) t s =
      absurd (omega (arith, took_free channel (replicate (suc n) item) b mid t, length-replicate (suc n) item, s.law.closed))

  -- below took one copy more
  pub one_more : (copies : ℕ) (b mid b' : C) (item : Item) → Took channel b (replicate copies item) mid → Sent channel mid item (Ok tt) b'
      → Took channel b (replicate (copies + 1) item) b'
  one_more copies b mid b' item t s =
      subst (λ items. Took channel b items b') (replicate_more copies item) (took_more channel (replicate copies item) item b mid b' t s)

  -- below took all the copies, so it was open for all
  pub all_room : (b b' : C) (item : Item) → (free_of channel b ≡ 0) ⊎ (times ≤ free_of channel b) → Took channel b (replicate times item) b' → times ≤ free_of channel b
  all_room b b' item (inl z) t =
      absurd (omega (arith, took_open channel (replicate times item) b b' (omega (arith, length-replicate times item)) t))
  all_room b b' item (inr r) t = r
