-- Runs of the machine over parts of a text. Assumes nothing.
use Rattle.std.proofs.Common.{◌≡◌, ℕ, Bool, true, List, [], ◌∷◌, ◌++◌, refl, ap, ◌∙◌, arith}
use Rattle.std.proofs.lemmas.Bool.{cond-true}
use Rattle.std.proofs.lemmas.Bool.Decides.{nat_tests}
use Rattle.json_text.specs.Grammar.{Each, White, nonzero, white}
use Rattle.json_text.specs.Grammar.Each.{no_byte, byte}
use Rattle.json_text.specs.Parts.{follow}
use Rattle.json_text.specs.Machine.{Kind, State, accepts, go_on, none_open, run, step}
use Rattle.json_text.specs.Machine.Kind.{arr, obj}
use Rattle.json_text.specs.Machine.Mode.{value, first, name, opened, colon, after, zeroed, whole, places, scaled}
use Rattle.json_text.specs.Machine.State.{dead, live}

pub run_append : (s : State) (xs ys : List ℕ) → run s (xs ++ ys) ≡ run (run s xs) ys
run_append s [] ys = refl
run_append s (x ∷ xs) ys = run_append (step s x) xs ys

pub run_dead : (xs : List ℕ) → run dead xs ≡ dead
run_dead [] = refl
run_dead (x ∷ xs) = run_dead xs

-- bytes that leave a state as it is
pub each_stays : (test : ℕ → Bool) (s : State) → ((b : ℕ) → test b ≡ true → step s b ≡ s) → {xs : List ℕ} → Each test xs → run s xs ≡ s
each_stays test s stays no_byte = refl
each_stays test s stays (byte {b} {bs} t e) = ap (λ u. run u bs) (stays b t) ∙ each_stays test s stays e

pub go_on_white : (k : List Kind) (b : ℕ) → white b ≡ true → go_on k b ≡ live after k
go_on_white [] b t = cond-true _ _ _ t
go_on_white (arr ∷ k) b t = cond-true _ _ _ t
go_on_white (obj ∷ k) b t = cond-true _ _ _ t

pub white_value : (k : List Kind) {w : List ℕ} → White w → run (live value k) w ≡ live value k
white_value k e = each_stays white (live value k) (λ b t. cond-true _ _ _ t) e

pub white_first : (k : List Kind) {w : List ℕ} → White w → run (live first (arr ∷ k)) w ≡ live first (arr ∷ k)
white_first k e = each_stays white (live first (arr ∷ k)) (λ b t. cond-true _ _ _ t) e

pub white_name : (k : List Kind) {w : List ℕ} → White w → run (live name k) w ≡ live name k
white_name k e = each_stays white (live name k) (λ b t. cond-true _ _ _ t) e

pub white_opened : (k : List Kind) {w : List ℕ} → White w → run (live opened (obj ∷ k)) w ≡ live opened (obj ∷ k)
white_opened k e = each_stays white (live opened (obj ∷ k)) (λ b t. cond-true _ _ _ t) e

pub white_colon : (k : List Kind) {w : List ℕ} → White w → run (live colon k) w ≡ live colon k
white_colon k e = each_stays white (live colon k) (λ b t. cond-true _ _ _ t) e

pub white_after : (k : List Kind) {w : List ℕ} → White w → run (live after k) w ≡ live after k
white_after k e = each_stays white (live after k) (go_on_white k) e

-- the state is that after a value, though a number may still go on
pub record Done (k : List Kind) (s : State) : Type 0 where
  pub steps : (b : ℕ) → follow b ≡ true → step s b ≡ go_on k b
  pub ends : accepts s ≡ none_open k

pub done_after : (k : List Kind) → Done k (live after k)
done_after k = record { steps = λ b f. refl; ends = refl }

pub done_zeroed : (k : List Kind) → Done k (live zeroed k)
done_zeroed k = record { steps = λ b f. grind (arith, nat_tests); ends = refl }

pub done_whole : (k : List Kind) → Done k (live whole k)
done_whole k = record { steps = λ b f. grind (arith, nat_tests); ends = refl }

pub done_places : (k : List Kind) → Done k (live places k)
done_places k = record { steps = λ b f. grind (arith, nat_tests); ends = refl }

pub done_scaled : (k : List Kind) → Done k (live scaled k)
done_scaled k = record { steps = λ b f. grind (arith, nat_tests); ends = refl }

pub whole_from_value : (k : List Kind) (d : ℕ) → nonzero d ≡ true → step (live value k) d ≡ live whole k
whole_from_value k d t = grind (arith, nat_tests)
