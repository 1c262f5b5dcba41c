-- What the machine has not refused is the beginning of a text, and only that; its open arrays and objects are the depth. Assumes nothing.
use Rattle.std.proofs.Common.{◌≡◌, ℕ, Bool, true, false, cond, ◌&&◌, eqb, leb, List, [], ◌∷◌, ◌++◌, length, sym, refl, ap, ◌∙◌, subst, subst₂, arith}
use Rattle.std.proofs.lemmas.Bool.{and_parts, cond-true, eq-eqb, eqb-true, false≢true}
use Rattle.std.proofs.lemmas.Bool.Decides.{nat_tests}
use Rattle.json_text.specs.Beginnings.{Begins, Spot, deeper, depth, depth_from, past}
use Rattle.json_text.specs.Beginnings.Spot.{outside, inside, escaped as behind}
use Rattle.json_text.specs.Grammar.{digit, escapable, hex, nonzero, plain, power, sign, white}
use Rattle.json_text.specs.Machine.{Kind, Mode, State, accepts, after_whole, begin, closed, go_on, literal_step, move, run, start}
use Rattle.json_text.specs.Machine.Kind.{arr, obj}
use Rattle.json_text.specs.Machine.Mode.{value, first, name, opened, colon, after, chars, escaped, hex1, hex2, hex3, hex4, literal, minused, zeroed, whole, pointed, places, powered, signed, scaled}
use Rattle.json_text.specs.Machine.State.{dead, live}
use Rattle.json_text.proofs.Complete.{text_accepted}
use Rattle.json_text.proofs.Runs.{Done, done_after, done_places, done_scaled, done_whole, done_zeroed, run_append, run_dead}
use Rattle.json_text.proofs.Sound.{accepted_text}

abbrev letter : ℕ → Bool
letter b = leb 97 b && leb b 122

abbrev letters : List ℕ → Bool
letters [] = true
letters (b ∷ bs) = letter b && letters bs

-- an array that was just opened is the innermost, and so is an object; a literal has letters only
abbrev sane : Mode → List Kind → Bool
sane value k = true
sane first [] = false
sane first (arr ∷ k) = true
sane first (obj ∷ k) = false
sane name k = true
sane opened [] = false
sane opened (arr ∷ k) = false
sane opened (obj ∷ k) = true
sane colon k = true
sane after k = true
sane (chars n) k = true
sane (escaped n) k = true
sane (hex4 n) k = true
sane (hex3 n) k = true
sane (hex2 n) k = true
sane (hex1 n) k = true
sane (literal c cs) k = letters (c ∷ cs)
sane minused k = true
sane zeroed k = true
sane whole k = true
sane pointed k = true
sane places k = true
sane powered k = true
sane signed k = true
sane scaled k = true

abbrev Sane : State → Type 0
Sane dead = Unit {0}
Sane (live m k) = sane m k ≡ true

either : (t : Bool) (x y : State) → Sane x → Sane y → Sane (cond t x y)
either true x y p q = p
either false x y p q = q

sane_go_on : (k : List Kind) (b : ℕ) → Sane (go_on k b)
sane_go_on [] b = either (white b) _ _ refl tt
sane_go_on (arr ∷ k) b = either (white b) _ _ refl (either (eqb b 44) _ _ refl (either (eqb b 93) _ _ refl tt))
sane_go_on (obj ∷ k) b = either (white b) _ _ refl (either (eqb b 44) _ _ refl (either (eqb b 125) _ _ refl tt))

sane_start : (k : List Kind) (b : ℕ) → Sane (start k b)
sane_start k b =
    either (eqb b 34) _ _ refl (either (eqb b 91) _ _ refl (either (eqb b 123) _ _ refl (either (eqb b 45) _ _ refl (either (eqb b 48) _ _ refl
    (either (nonzero b) _ _ refl (either (eqb b 116) _ _ refl (either (eqb b 102) _ _ refl (either (eqb b 110) _ _ refl tt))))))))

sane_closed : (n : Bool) (k : List Kind) → Sane (closed n k)
sane_closed true k = refl
sane_closed false k = refl

sane_literal : (cs : List ℕ) (k : List Kind) → letters cs ≡ true → Sane (literal_step cs k)
sane_literal [] k h = refl
sane_literal (c ∷ cs) k h = h

sane_after_whole : (k : List Kind) (b : ℕ) → Sane (after_whole k b)
sane_after_whole k b = either (eqb b 46) _ _ refl (either (power b) _ _ refl (sane_go_on k b))

sane_move : (m : Mode) (k : List Kind) (b : ℕ) → sane m k ≡ true → Sane (move m k b)
sane_move value k b h = either (white b) _ _ refl (sane_start k b)
sane_move first [] b h = tt
sane_move first (arr ∷ k) b h = either (white b) _ _ refl (either (eqb b 93) _ _ refl (sane_start (arr ∷ k) b))
sane_move first (obj ∷ k) b h = tt
sane_move name k b h = either (white b) _ _ refl (either (eqb b 34) _ _ refl tt)
sane_move opened [] b h = tt
sane_move opened (arr ∷ k) b h = tt
sane_move opened (obj ∷ k) b h = either (white b) _ _ refl (either (eqb b 125) _ _ refl (either (eqb b 34) _ _ refl tt))
sane_move colon k b h = either (white b) _ _ refl (either (eqb b 58) _ _ refl tt)
sane_move after k b h = sane_go_on k b
sane_move (chars n) k b h = either (eqb b 34) _ _ (sane_closed n k) (either (eqb b 92) _ _ refl (either (plain b) _ _ refl tt))
sane_move (escaped n) k b h = either (escapable b) _ _ refl (either (eqb b 117) _ _ refl tt)
sane_move (hex4 n) k b h = either (hex b) _ _ refl tt
sane_move (hex3 n) k b h = either (hex b) _ _ refl tt
sane_move (hex2 n) k b h = either (hex b) _ _ refl tt
sane_move (hex1 n) k b h = either (hex b) _ _ refl tt
sane_move (literal c cs) k b h = either (eqb b c) _ _ (sane_literal cs k (and_parts (letter c) (letters cs) h).1) tt
sane_move minused k b h = either (eqb b 48) _ _ refl (either (nonzero b) _ _ refl tt)
sane_move zeroed k b h = sane_after_whole k b
sane_move whole k b h = either (digit b) _ _ refl (sane_after_whole k b)
sane_move pointed k b h = either (digit b) _ _ refl tt
sane_move places k b h = either (digit b) _ _ refl (either (power b) _ _ refl (sane_go_on k b))
sane_move powered k b h = either (sign b) _ _ refl (either (digit b) _ _ refl tt)
sane_move signed k b h = either (digit b) _ _ refl tt
sane_move scaled k b h = either (digit b) _ _ refl (sane_go_on k b)

sane_run : (s : State) (bs : List ℕ) → Sane s → Sane (run s bs)
sane_run s [] h = h
sane_run dead (b ∷ bs) h = sane_run dead bs tt
sane_run (live m k) (b ∷ bs) h = sane_run (move m k b) bs (sane_move m k b h)

-- bytes that finish the value, and those that close what is open
finish_string : Bool → List ℕ
finish_string true = 34 ∷ 58 ∷ 48 ∷ []
finish_string false = 34 ∷ []

finish : Mode → List ℕ
finish value = 48 ∷ []
finish first = 48 ∷ []
finish name = 34 ∷ 34 ∷ 58 ∷ 48 ∷ []
finish opened = 34 ∷ 34 ∷ 58 ∷ 48 ∷ []
finish colon = 58 ∷ 48 ∷ []
finish after = []
finish (chars n) = finish_string n
finish (escaped n) = 34 ∷ finish_string n
finish (hex4 n) = 48 ∷ 48 ∷ 48 ∷ 48 ∷ finish_string n
finish (hex3 n) = 48 ∷ 48 ∷ 48 ∷ finish_string n
finish (hex2 n) = 48 ∷ 48 ∷ finish_string n
finish (hex1 n) = 48 ∷ finish_string n
finish (literal c cs) = c ∷ cs
finish minused = 48 ∷ []
finish zeroed = []
finish whole = []
finish pointed = 48 ∷ []
finish places = []
finish powered = 48 ∷ []
finish signed = 48 ∷ []
finish scaled = []

close : List Kind → List ℕ
close [] = []
close (arr ∷ k) = 93 ∷ close k
close (obj ∷ k) = 125 ∷ close k

string_done : (n : Bool) (k : List Kind) → Done k (run (live (chars n) k) (finish_string n))
unfolding finish_string
string_done true k = done_zeroed k
string_done false k = done_after k

literal_done : (c : ℕ) (cs : List ℕ) (k : List Kind) → run (live (literal c cs) k) (c ∷ cs) ≡ live after k
literal_done c [] k = cond-true _ _ _ (eq-eqb c c refl)
literal_done c (d ∷ ds) k = ap (λ u. run u (d ∷ ds)) (cond-true _ _ _ (eq-eqb c c refl)) ∙ literal_done d ds k

finish_done : (m : Mode) (k : List Kind) → sane m k ≡ true → Done k (run (live m k) (finish m))
unfolding finish finish_string
finish_done value k h = done_zeroed k
finish_done first [] h = absurd (false≢true h)
finish_done first (arr ∷ k) h = done_zeroed (arr ∷ k)
finish_done first (obj ∷ k) h = absurd (false≢true h)
finish_done name k h = done_zeroed k
finish_done opened [] h = absurd (false≢true h)
finish_done opened (arr ∷ k) h = absurd (false≢true h)
finish_done opened (obj ∷ k) h = done_zeroed (obj ∷ k)
finish_done colon k h = done_zeroed k
finish_done after k h = done_after k
finish_done (chars n) k h = string_done n k
finish_done (escaped n) k h = string_done n k
finish_done (hex4 n) k h = string_done n k
finish_done (hex3 n) k h = string_done n k
finish_done (hex2 n) k h = string_done n k
finish_done (hex1 n) k h = string_done n k
finish_done (literal c cs) k h = subst (Done k) (sym (literal_done c cs k)) (done_after k)
finish_done minused k h = done_zeroed k
finish_done zeroed k h = done_zeroed k
finish_done whole k h = done_whole k
finish_done pointed k h = done_places k
finish_done places k h = done_places k
finish_done powered k h = done_scaled k
finish_done signed k h = done_scaled k
finish_done scaled k h = done_scaled k

close_accepts : (k : List Kind) (s : State) → Done k s → accepts (run s (close k)) ≡ true
unfolding close
close_accepts [] s d = d.ends
close_accepts (arr ∷ k) s d = ap (λ u. accepts (run u (close k))) (d.steps 93 refl) ∙ close_accepts k (live after k) (done_after k)
close_accepts (obj ∷ k) s d = ap (λ u. accepts (run u (close k))) (d.steps 125 refl) ∙ close_accepts k (live after k) (done_after k)

-- what is still alive is a beginning
pub live_begins : (p : List ℕ) (m : Mode) (k : List Kind) → run begin p ≡ live m k → Begins p
live_begins p m k e =
    let c = finish m ++ close k in
    let fine = subst Sane e (sane_run begin p refl) in
    let found = accepted_text (p ++ c) (ap accepts (run_append begin p c ∙ ap (λ u. run u c) e ∙ run_append (live m k) (finish m) (close k)) ∙ close_accepts k _ (finish_done m k fine)) in
    record { more = c; tree = found.0; is = found.1 }

-- a beginning is still alive
pub begins_live : (p : List ℕ) → Begins p → run begin p ≡ dead → ⊥
begins_live p b e =
    false≢true (sym (ap accepts (run_append begin p b.more ∙ ap (λ u. run u b.more) e ∙ run_dead b.more)) ∙ text_accepted b.is)

-- where the next byte stands
abbrev spot_of : Mode → Spot
spot_of value = outside
spot_of first = outside
spot_of name = outside
spot_of opened = outside
spot_of colon = outside
spot_of after = outside
spot_of (chars n) = inside
spot_of (escaped n) = behind
spot_of (hex4 n) = inside
spot_of (hex3 n) = inside
spot_of (hex2 n) = inside
spot_of (hex1 n) = inside
spot_of (literal c cs) = outside
spot_of minused = outside
spot_of zeroed = outside
spot_of whole = outside
spot_of pointed = outside
spot_of places = outside
spot_of powered = outside
spot_of signed = outside
spot_of scaled = outside

-- the state has the place and the depth that the bytes have
abbrev Fits : State → Spot → ℕ → Type 0
Fits dead spot d = Unit {0}
Fits (live m k) spot d = (spot ≡ spot_of m) × (d ≡ length k)

fit : (spot : Spot) (d : ℕ) (t : Bool) (x y : State) → (t ≡ true → Fits x spot d) → (t ≡ false → Fits y spot d) → Fits (cond t x y) spot d
fit spot d true x y p q = p refl
fit spot d false x y p q = q refl

-- a byte outside strings that is no quote, bracket or brace
quiet : (k : List Kind) (b : ℕ) → (eqb b 34 ≡ false) → (eqb b 91 ≡ false) → (eqb b 123 ≡ false) → (eqb b 93 ≡ false) → (eqb b 125 ≡ false) → (past outside b ≡ outside) × (deeper outside (length k) b ≡ length k)
quiet k b q o p c d = (grind (arith, nat_tests), grind (arith, nat_tests))

module _ (k : List Kind) (b : ℕ) where
  abbrev Q : Type 0
  Q = (past outside b ≡ outside) × (deeper outside (length k) b ≡ length k)

  quiet_white : white b ≡ true → Q
  quiet_white t = quiet k b (grind (arith, nat_tests)) (grind (arith, nat_tests)) (grind (arith, nat_tests)) (grind (arith, nat_tests)) (grind (arith, nat_tests))

  quiet_digit : digit b ≡ true → Q
  quiet_digit t = quiet k b (grind (arith, nat_tests)) (grind (arith, nat_tests)) (grind (arith, nat_tests)) (grind (arith, nat_tests)) (grind (arith, nat_tests))

  quiet_nonzero : nonzero b ≡ true → Q
  quiet_nonzero t = quiet k b (grind (arith, nat_tests)) (grind (arith, nat_tests)) (grind (arith, nat_tests)) (grind (arith, nat_tests)) (grind (arith, nat_tests))

  quiet_power : power b ≡ true → Q
  quiet_power t = quiet k b (grind (arith, nat_tests)) (grind (arith, nat_tests)) (grind (arith, nat_tests)) (grind (arith, nat_tests)) (grind (arith, nat_tests))

  quiet_sign : sign b ≡ true → Q
  quiet_sign t = quiet k b (grind (arith, nat_tests)) (grind (arith, nat_tests)) (grind (arith, nat_tests)) (grind (arith, nat_tests)) (grind (arith, nat_tests))

  quiet_letter : letter b ≡ true → Q
  quiet_letter t = quiet k b (grind (arith, nat_tests)) (grind (arith, nat_tests)) (grind (arith, nat_tests)) (grind (arith, nat_tests)) (grind (arith, nat_tests))

  -- one given byte
  at_byte : (c : ℕ) (spot : Spot) (d : ℕ) → past outside c ≡ spot → deeper outside (length k) c ≡ d → eqb b c ≡ true → (past outside b ≡ spot) × (deeper outside (length k) b ≡ d)
  at_byte c spot d p q t = (ap (past outside) (eqb-true b c t) ∙ p, ap (deeper outside (length k)) (eqb-true b c t) ∙ q)

fits_go_on : (k : List Kind) (b : ℕ) → Fits (go_on k b) (past outside b) (deeper outside (length k) b)
fits_go_on [] b = fit _ _ (white b) (live after []) dead (quiet_white [] b) (λ _. tt)
fits_go_on (arr ∷ k) b =
    fit _ _ (white b) (live after (arr ∷ k)) _ (quiet_white (arr ∷ k) b)
    (λ _. fit _ _ (eqb b 44) (live value (arr ∷ k)) _ (at_byte (arr ∷ k) b 44 outside _ refl refl)
    (λ _. fit _ _ (eqb b 93) (live after k) dead (at_byte (arr ∷ k) b 93 outside _ refl refl) (λ _. tt)))
fits_go_on (obj ∷ k) b =
    fit _ _ (white b) (live after (obj ∷ k)) _ (quiet_white (obj ∷ k) b)
    (λ _. fit _ _ (eqb b 44) (live name (obj ∷ k)) _ (at_byte (obj ∷ k) b 44 outside _ refl refl)
    (λ _. fit _ _ (eqb b 125) (live after k) dead (at_byte (obj ∷ k) b 125 outside _ refl refl) (λ _. tt)))

fits_start : (k : List Kind) (b : ℕ) → Fits (start k b) (past outside b) (deeper outside (length k) b)
fits_start k b =
    fit _ _ (eqb b 34) (live (chars false) k) _ (at_byte k b 34 inside _ refl refl)
    (λ _. fit _ _ (eqb b 91) (live first (arr ∷ k)) _ (at_byte k b 91 outside _ refl refl)
    (λ _. fit _ _ (eqb b 123) (live opened (obj ∷ k)) _ (at_byte k b 123 outside _ refl refl)
    (λ _. fit _ _ (eqb b 45) (live minused k) _ (at_byte k b 45 outside _ refl refl)
    (λ _. fit _ _ (eqb b 48) (live zeroed k) _ (at_byte k b 48 outside _ refl refl)
    (λ _. fit _ _ (nonzero b) (live whole k) _ (quiet_nonzero k b)
    (λ _. fit _ _ (eqb b 116) (live (literal 114 (117 ∷ 101 ∷ [])) k) _ (at_byte k b 116 outside _ refl refl)
    (λ _. fit _ _ (eqb b 102) (live (literal 97 (108 ∷ 115 ∷ 101 ∷ [])) k) _ (at_byte k b 102 outside _ refl refl)
    (λ _. fit _ _ (eqb b 110) (live (literal 117 (108 ∷ 108 ∷ [])) k) dead (at_byte k b 110 outside _ refl refl) (λ _. tt)))))))))

fits_closed : (n : Bool) (k : List Kind) (spot : Spot) → spot ≡ outside → Fits (closed n k) spot (length k)
fits_closed true k spot e = (e, refl)
fits_closed false k spot e = (e, refl)

fits_literal : (cs : List ℕ) (k : List Kind) (spot : Spot) (d : ℕ) → (spot ≡ outside) × (d ≡ length k) → Fits (literal_step cs k) spot d
fits_literal [] k spot d h = h
fits_literal (c ∷ cs) k spot d h = h

fits_after_whole : (k : List Kind) (b : ℕ) → Fits (after_whole k b) (past outside b) (deeper outside (length k) b)
fits_after_whole k b =
    fit _ _ (eqb b 46) (live pointed k) _ (at_byte k b 46 outside _ refl refl)
    (λ _. fit _ _ (power b) (live powered k) _ (quiet_power k b) (λ _. fits_go_on k b))

fits_move : (m : Mode) (k : List Kind) (b : ℕ) → sane m k ≡ true → Fits (move m k b) (past (spot_of m) b) (deeper (spot_of m) (length k) b)
fits_move value k b h = fit _ _ (white b) (live value k) _ (quiet_white k b) (λ _. fits_start k b)
fits_move first [] b h = tt
fits_move first (arr ∷ k) b h =
    fit _ _ (white b) (live first (arr ∷ k)) _ (quiet_white (arr ∷ k) b)
    (λ _. fit _ _ (eqb b 93) (live after k) _ (at_byte (arr ∷ k) b 93 outside _ refl refl) (λ _. fits_start (arr ∷ k) b))
fits_move first (obj ∷ k) b h = tt
fits_move name k b h =
    fit _ _ (white b) (live name k) _ (quiet_white k b) (λ _. fit _ _ (eqb b 34) (live (chars true) k) dead (at_byte k b 34 inside _ refl refl) (λ _. tt))
fits_move opened [] b h = tt
fits_move opened (arr ∷ k) b h = tt
fits_move opened (obj ∷ k) b h =
    fit _ _ (white b) (live opened (obj ∷ k)) _ (quiet_white (obj ∷ k) b)
    (λ _. fit _ _ (eqb b 125) (live after k) _ (at_byte (obj ∷ k) b 125 outside _ refl refl)
    (λ _. fit _ _ (eqb b 34) (live (chars true) (obj ∷ k)) dead (at_byte (obj ∷ k) b 34 inside _ refl refl) (λ _. tt)))
fits_move colon k b h =
    fit _ _ (white b) (live colon k) _ (quiet_white k b) (λ _. fit _ _ (eqb b 58) (live value k) dead (at_byte k b 58 outside _ refl refl) (λ _. tt))
fits_move after k b h = fits_go_on k b
fits_move (chars n) k b h =
    fit _ _ (eqb b 34) (closed n k) _ (λ t. fits_closed n k _ (ap (past inside) (eqb-true b 34 t)))
    (λ f. fit _ _ (eqb b 92) (live (escaped n) k) _ (λ t. (ap (past inside) (eqb-true b 92 t), refl))
    (λ g. fit _ _ (plain b) (live (chars n) k) dead (λ t. (grind (arith, nat_tests), refl)) (λ _. tt)))
fits_move (escaped n) k b h =
    fit _ _ (escapable b) (live (chars n) k) _ (λ _. (refl, refl)) (λ _. fit _ _ (eqb b 117) (live (hex4 n) k) dead (λ _. (refl, refl)) (λ _. tt))
fits_move (hex4 n) k b h = fit _ _ (hex b) (live (hex3 n) k) dead (λ t. (grind (arith, nat_tests), refl)) (λ _. tt)
fits_move (hex3 n) k b h = fit _ _ (hex b) (live (hex2 n) k) dead (λ t. (grind (arith, nat_tests), refl)) (λ _. tt)
fits_move (hex2 n) k b h = fit _ _ (hex b) (live (hex1 n) k) dead (λ t. (grind (arith, nat_tests), refl)) (λ _. tt)
fits_move (hex1 n) k b h = fit _ _ (hex b) (live (chars n) k) dead (λ t. (grind (arith, nat_tests), refl)) (λ _. tt)
fits_move (literal c cs) k b h =
    fit _ _ (eqb b c) (literal_step cs k) dead
    (λ t. fits_literal cs k _ _ (quiet_letter k b (ap letter (eqb-true b c t) ∙ (and_parts (letter c) (letters cs) h).0)))
    (λ _. tt)
fits_move minused k b h =
    fit _ _ (eqb b 48) (live zeroed k) _ (at_byte k b 48 outside _ refl refl) (λ _. fit _ _ (nonzero b) (live whole k) dead (quiet_nonzero k b) (λ _. tt))
fits_move zeroed k b h = fits_after_whole k b
fits_move whole k b h = fit _ _ (digit b) (live whole k) _ (quiet_digit k b) (λ _. fits_after_whole k b)
fits_move pointed k b h = fit _ _ (digit b) (live places k) dead (quiet_digit k b) (λ _. tt)
fits_move places k b h =
    fit _ _ (digit b) (live places k) _ (quiet_digit k b) (λ _. fit _ _ (power b) (live powered k) _ (quiet_power k b) (λ _. fits_go_on k b))
fits_move powered k b h = fit _ _ (sign b) (live signed k) _ (quiet_sign k b) (λ _. fit _ _ (digit b) (live scaled k) dead (quiet_digit k b) (λ _. tt))
fits_move signed k b h = fit _ _ (digit b) (live scaled k) dead (quiet_digit k b) (λ _. tt)
fits_move scaled k b h = fit _ _ (digit b) (live scaled k) _ (quiet_digit k b) (λ _. fits_go_on k b)

-- where the bytes leave off, and how deep
abbrev spot_from : Spot → List ℕ → Spot
spot_from spot [] = spot
spot_from spot (b ∷ bs) = spot_from (past spot b) bs

fits_run : (bs : List ℕ) (s : State) (spot : Spot) (d : ℕ) → Sane s → Fits s spot d → Fits (run s bs) (spot_from spot bs) (depth_from spot d bs)
fits_run [] s spot d fine h = h
fits_run (b ∷ bs) dead spot d fine h = fits_run bs dead (past spot b) (deeper spot d b) tt tt
fits_run (b ∷ bs) (live m k) spot d fine h =
    fits_run bs (move m k b) (past spot b) (deeper spot d b) (sane_move m k b fine)
    (subst₂ (λ x y. Fits (move m k b) (past x b) (deeper x y b)) (sym h.0) (sym h.1) (fits_move m k b fine))

-- the machine's open arrays and objects are the depth
pub live_depth : (p : List ℕ) (m : Mode) (k : List Kind) → run begin p ≡ live m k → depth p ≡ length k
live_depth p m k e = (subst (λ u. Fits u (spot_from outside p) (depth p)) e (fits_run p begin outside 0 refl (refl, refl))).1
