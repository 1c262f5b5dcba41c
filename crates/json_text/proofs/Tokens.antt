-- What an accepting run says of the white space, strings, literals and numbers that it has read. Assumes nothing.
use Rattle.std.proofs.Common.{◌≡◌, ℕ, ◌<◌, ◌≤◌, Bool, true, false, cond, eqb, ◌⊎◌, List, [], ◌∷◌, ◌++◌, length, sym, refl, ap, ◌∙◌, subst, inl, inr, ⊎_elim, append_assoc, arith, length-append}
use Rattle.std.proofs.lemmas.Bool.{eqb-true, true≢false, false≢true}
use Rattle.json_text.specs.Grammar.{Chars, Digits, Each, Exponent, Fraction, digit, escapable, hex, plain, power, sign}
use Rattle.json_text.specs.Grammar.Chars.{no_char, char, escape, unicode}
use Rattle.json_text.specs.Grammar.Digits.{digits}
use Rattle.json_text.specs.Grammar.Each.{no_byte, byte}
use Rattle.json_text.specs.Grammar.Exponent.{no_exponent, exponent}
use Rattle.json_text.specs.Grammar.Fraction.{no_fraction, fraction}
use Rattle.json_text.specs.Grammar.Sign.{no_sign, signed as a-sign}
use Rattle.json_text.specs.Machine.{Kind, State, accepts, after_whole, closed, go_on, run, step}
use Rattle.json_text.specs.Machine.Mode.{after, chars, escaped, hex1, hex2, hex3, hex4, literal, places, pointed, powered, scaled, signed, whole, zeroed}
use Rattle.json_text.specs.Machine.State.{dead, live}
use Rattle.json_text.proofs.Runs.{run_dead}

-- the machine accepts what follows
abbrev pub Acc : State → List ℕ → Type 0
Acc s bs = accepts (run s bs) ≡ true

pub not_dead : (bs : List ℕ) → Acc dead bs → ⊥
not_dead bs h = false≢true (sym (ap accepts (run_dead bs)) ∙ h)

-- which way a test went
pub by_test : (bs : List ℕ) (t : Bool) (x y : State) → Acc (cond t x y) bs → ((t ≡ true) × Acc x bs) ⊎ ((t ≡ false) × Acc y bs)
by_test bs true x y h = inl (refl, h)
by_test bs false x y h = inr (refl, h)

-- the last test has to pass
pub by_last : (bs : List ℕ) (t : Bool) (x : State) → Acc (cond t x dead) bs → (t ≡ true) × Acc x bs
by_last bs true x h = (refl, h)
by_last bs false x h = absurd (not_dead bs h)

-- bytes that pass a test, then one that does not
pub record Led (test : ℕ → Bool) (next : ℕ → State) (s : List ℕ) : Type 0 where
  pub front : List ℕ
  pub here : ℕ
  pub rest : List ℕ
  pub cut : s ≡ front ++ (here ∷ rest)
  pub is : Each test front
  pub on : Acc (next here) rest
  pub short : length rest < length s

-- all bytes pass the test, or one does not
pub led_or_all : (test : ℕ → Bool) (s : State) (next : ℕ → State) → ((b : ℕ) → step s b ≡ cond (test b) s (next b)) → (bs : List ℕ) → Acc s bs → (Each test bs × (accepts s ≡ true)) ⊎ Led test next bs
led_or_all test s next is [] h = inl (no_byte, h)
led_or_all test s next is (b ∷ bs) h =
    ⊎_elim
    (λ yes-here. ⊎_elim
    (λ all. inl (byte yes-here.0 all.0, all.1))
    (λ l. inr (record { front = b ∷ l.front; here = l.here; rest = l.rest; cut = ap (λ x. b ∷ x) l.cut; is = byte yes-here.0 l.is; on = l.on; short = omega (arith, l.short) }))
    (led_or_all test s next is bs yes-here.1))
    (λ not-here. inr (record { front = []; here = b; rest = bs; cut = refl; is = no_byte; on = not-here.1; short = omega arith }))
    (by_test bs (test b) s (next b) (subst (λ u. Acc u bs) (is b) h))

-- where the text cannot end
pub led : (test : ℕ → Bool) (s : State) (next : ℕ → State) → ((b : ℕ) → step s b ≡ cond (test b) s (next b)) → accepts s ≡ false → (bs : List ℕ) → Acc s bs → Led test next bs
led test s next is no_end bs h = ⊎_elim (λ all. absurd (true≢false (sym all.1 ∙ no_end))) (λ l. l) (led_or_all test s next is bs h)

-- a part of a string, its closing quote, and what follows
pub record Quoted (P : List ℕ → Type 0) (n : Bool) (k : List Kind) (s : List ℕ) : Type 0 where
  pub front : List ℕ
  pub rest : List ℕ
  pub cut : s ≡ front ++ (34 ∷ rest)
  pub is : P front
  pub on : Acc (closed n k) rest
  pub short : length rest < length s

-- one byte more in front
quoted_more : (P Q : List ℕ → Type 0) (n : Bool) (k : List Kind) (b : ℕ) (s : List ℕ) → ((cs : List ℕ) → P cs → Q (b ∷ cs)) → Quoted P n k s → Quoted Q n k (b ∷ s)
quoted_more P Q n k b s f q = record { front = b ∷ q.front; rest = q.rest; cut = ap (λ x. b ∷ x) q.cut; is = f q.front q.is; on = q.on; short = omega (arith, q.short) }

module _ (n : Bool) (k : List Kind) where
  mutual
    pub chars_cut : (s : List ℕ) → Acc (live (chars n) k) s → Quoted Chars n k s
    chars_cut [] h = absurd (false≢true h)
    chars_cut (b ∷ s) h =
        ⊎_elim
        (λ quote. record { front = []; rest = s; cut = ap (λ x. x ∷ s) (eqb-true b 34 quote.0); is = no_char; on = quote.1; short = omega arith })
        (λ r1. ⊎_elim
        (λ slash. quoted_more (λ cs. Chars (92 ∷ cs)) Chars n k b s (λ cs c. subst (λ x. Chars (x ∷ cs)) (sym (eqb-true b 92 slash.0)) c) (escaped_cut s slash.1))
        (λ r2. let p = by_last s (plain b) (live (chars n) k) r2.1 in quoted_more Chars Chars n k b s (λ cs c. char p.0 c) (chars_cut s p.1))
        (by_test s (eqb b 92) _ _ r1.1))
        (by_test s (eqb b 34) _ _ h)

    escaped_cut : (s : List ℕ) → Acc (live (escaped n) k) s → Quoted (λ cs. Chars (92 ∷ cs)) n k s
    escaped_cut [] h = absurd (false≢true h)
    escaped_cut (b ∷ s) h =
        ⊎_elim
        (λ e. quoted_more Chars (λ cs. Chars (92 ∷ cs)) n k b s (λ cs c. escape e.0 c) (chars_cut s e.1))
        (λ r1. let u = by_last s (eqb b 117) (live (hex4 n) k) r1.1 in
        quoted_more (λ cs. Chars (92 ∷ 117 ∷ cs)) (λ cs. Chars (92 ∷ cs)) n k b s (λ cs c. subst (λ x. Chars (92 ∷ x ∷ cs)) (sym (eqb-true b 117 u.0)) c) (hex4_cut s u.1))
        (by_test s (escapable b) _ _ h)

    hex4_cut : (s : List ℕ) → Acc (live (hex4 n) k) s → Quoted (λ cs. Chars (92 ∷ 117 ∷ cs)) n k s
    hex4_cut [] h = absurd (false≢true h)
    hex4_cut (b ∷ s) h =
        let x = by_last s (hex b) (live (hex3 n) k) h in
        quoted_more (λ cs. Chars (92 ∷ 117 ∷ b ∷ cs)) (λ cs. Chars (92 ∷ 117 ∷ cs)) n k b s (λ cs c. c) (hex3_cut s b x.0 x.1)

    hex3_cut : (s : List ℕ) (a : ℕ) → hex a ≡ true → Acc (live (hex3 n) k) s → Quoted (λ cs. Chars (92 ∷ 117 ∷ a ∷ cs)) n k s
    hex3_cut [] a ta h = absurd (false≢true h)
    hex3_cut (b ∷ s) a ta h =
        let x = by_last s (hex b) (live (hex2 n) k) h in
        quoted_more (λ cs. Chars (92 ∷ 117 ∷ a ∷ b ∷ cs)) (λ cs. Chars (92 ∷ 117 ∷ a ∷ cs)) n k b s (λ cs c. c) (hex2_cut s a b ta x.0 x.1)

    hex2_cut : (s : List ℕ) (a d : ℕ) → hex a ≡ true → hex d ≡ true → Acc (live (hex2 n) k) s → Quoted (λ cs. Chars (92 ∷ 117 ∷ a ∷ d ∷ cs)) n k s
    hex2_cut [] a d ta td h = absurd (false≢true h)
    hex2_cut (b ∷ s) a d ta td h =
        let x = by_last s (hex b) (live (hex1 n) k) h in
        quoted_more (λ cs. Chars (92 ∷ 117 ∷ a ∷ d ∷ b ∷ cs)) (λ cs. Chars (92 ∷ 117 ∷ a ∷ d ∷ cs)) n k b s (λ cs c. c) (hex1_cut s a d b ta td x.0 x.1)

    hex1_cut : (s : List ℕ) (a d e : ℕ) → hex a ≡ true → hex d ≡ true → hex e ≡ true → Acc (live (hex1 n) k) s → Quoted (λ cs. Chars (92 ∷ 117 ∷ a ∷ d ∷ e ∷ cs)) n k s
    hex1_cut [] a d e ta td te h = absurd (false≢true h)
    hex1_cut (b ∷ s) a d e ta td te h =
        let x = by_last s (hex b) (live (chars n) k) h in
        quoted_more Chars (λ cs. Chars (92 ∷ 117 ∷ a ∷ d ∷ e ∷ cs)) n k b s (λ cs c. unicode ta td te x.0 c) (chars_cut s x.1)

-- the text goes on after a value
abbrev pub On : List Kind → List ℕ → Type 0
On k s = Acc (live after k) s

-- a part of the text of a given form, and what follows the value that it ends
pub record Part (P : List ℕ → Type 0) (k : List Kind) (s : List ℕ) : Type 0 where
  pub front : List ℕ
  pub rest : List ℕ
  pub cut : s ≡ front ++ rest
  pub is : P front
  pub on : On k rest
  pub short : length rest ≤ length s

part_more : (P Q : List ℕ → Type 0) (k : List Kind) (b : ℕ) (s : List ℕ) → ((cs : List ℕ) → P cs → Q (b ∷ cs)) → Part P k s → Part Q k (b ∷ s)
part_more P Q k b s f q = record { front = b ∷ q.front; rest = q.rest; cut = ap (λ x. b ∷ x) q.cut; is = f q.front q.is; on = q.on; short = omega (arith, q.short) }

-- nothing of the form, since it may be left out
part_none : (P : List ℕ → Type 0) (k : List Kind) (s : List ℕ) → P [] → On k s → Part P k s
part_none P k s none h = record { front = []; rest = s; cut = refl; is = none; on = h; short = omega arith }

-- one form after another
part_then : (P Q R : List ℕ → Type 0) (k : List Kind) (xs s : List ℕ) → P xs → ((x y : List ℕ) → P x → Q y → R (x ++ y)) → Part Q k s → Part R k (xs ++ s)
part_then P Q R k xs s p f q = record {
  front = xs ++ q.front;
  rest = q.rest;
  cut = ap (λ x. xs ++ x) q.cut ∙ sym (append_assoc xs q.front q.rest);
  is = f xs q.front p q.is;
  on = q.on;
  short = omega (arith, q.short, length-append xs s);
}

pub literal_cut : (k : List Kind) (c : ℕ) (cs s : List ℕ) → Acc (live (literal c cs) k) s → Part (λ x. x ≡ c ∷ cs) k s
literal_cut k c [] [] h = absurd (false≢true h)
literal_cut k c (d ∷ ds) [] h = absurd (false≢true h)
literal_cut k c [] (b ∷ s) h =
    let x = by_last s (eqb b c) (live after k) h in
    record { front = b ∷ []; rest = s; cut = refl; is = ap (λ y. y ∷ []) (eqb-true b c x.0); on = x.1; short = omega arith }
literal_cut k c (d ∷ ds) (b ∷ s) h =
    let x = by_last s (eqb b c) (live (literal d ds) k) h in
    part_more (λ y. y ≡ d ∷ ds) (λ y. y ≡ c ∷ d ∷ ds) k b s (λ cs e. (λ i. eqb-true b c x.0 i ∷ e i)) (literal_cut k d ds s x.1)

-- digits to the end of a number
scaled_cut : (k : List Kind) (s : List ℕ) → Acc (live scaled k) s → Part (Each digit) k s
scaled_cut k [] h = part_none (Each digit) k [] no_byte h
scaled_cut k (b ∷ s) h =
    ⊎_elim
    (λ d. part_more (Each digit) (Each digit) k b s (λ cs c. byte d.0 c) (scaled_cut k s d.1))
    (λ r. part_none (Each digit) k (b ∷ s) no_byte r.1)
    (by_test s (digit b) _ _ h)

signed_cut : (k : List Kind) (s : List ℕ) → Acc (live signed k) s → Part Digits k s
signed_cut k [] h = absurd (false≢true h)
signed_cut k (b ∷ s) h =
    let d = by_last s (digit b) (live scaled k) h in
    part_more (Each digit) Digits k b s (λ cs c. digits d.0 c) (scaled_cut k s d.1)

-- an exponent from its e on
powered_cut : (k : List Kind) (e : ℕ) → power e ≡ true → (s : List ℕ) → Acc (live powered k) s → Part Exponent k (e ∷ s)
powered_cut k e t [] h = absurd (false≢true h)
powered_cut k e t (b ∷ s) h =
    ⊎_elim
    (λ g. part_more (λ x. Exponent (e ∷ x)) Exponent k e (b ∷ s) (λ cs c. c)
    (part_more Digits (λ x. Exponent (e ∷ x)) k b s (λ cs c. exponent {s = b ∷ []} t (a-sign g.0) c) (signed_cut k s g.1)))
    (λ r. let d = by_last s (digit b) (live scaled k) r.1 in
    part_more (λ x. Exponent (e ∷ x)) Exponent k e (b ∷ s) (λ cs c. c)
    (part_more (Each digit) (λ x. Exponent (e ∷ x)) k b s (λ cs c. exponent {s = []} t no_sign (digits d.0 c)) (scaled_cut k s d.1)))
    (by_test s (sign b) _ _ h)

-- the byte after the digits of a fraction, or of a number without one
exponent_cut : (k : List Kind) (b : ℕ) (s : List ℕ) → Acc (cond (power b) (live powered k) (go_on k b)) s → Part Exponent k (b ∷ s)
exponent_cut k b s h =
    ⊎_elim
    (λ p. powered_cut k b p.0 s p.1)
    (λ r. part_none Exponent k (b ∷ s) no_exponent r.1)
    (by_test s (power b) _ _ h)

-- the digits after a point, and an exponent
abbrev Placed : List ℕ → Type 0
Placed x = (ds : List ℕ) × (e : List ℕ) × (x ≡ ds ++ e) × Each digit ds × Exponent e

places_cut : (k : List Kind) (s : List ℕ) → Acc (live places k) s → Part Placed k s
places_cut k [] h = part_none Placed k [] ([], [], refl, no_byte, no_exponent) h
places_cut k (b ∷ s) h =
    ⊎_elim
    (λ d. part_more Placed Placed k b s (λ cs c. (b ∷ c.0, c.1, ap (λ x. b ∷ x) c.2, byte d.0 c.3, c.4)) (places_cut k s d.1))
    (λ r. part_then (Each digit) Exponent Placed k [] (b ∷ s) no_byte (λ x y p q. (x, y, refl, p, q)) (exponent_cut k b s r.1))
    (by_test s (digit b) _ _ h)

-- what may follow the whole part of a number
abbrev pub Tail : List ℕ → Type 0
Tail x = (f : List ℕ) × (e : List ℕ) × (x ≡ f ++ e) × Fraction f × Exponent e

pointed_cut : (k : List Kind) (s : List ℕ) → Acc (live pointed k) s → Part Tail k (46 ∷ s)
pointed_cut k [] h = absurd (false≢true h)
pointed_cut k (b ∷ s) h =
    let d = by_last s (digit b) (live places k) h in
    part_more (λ x. Tail (46 ∷ x)) Tail k 46 (b ∷ s) (λ cs c. c)
    (part_more Placed (λ x. Tail (46 ∷ x)) k b s (λ cs c. (46 ∷ b ∷ c.0, c.1, ap (λ x. 46 ∷ b ∷ x) c.2, fraction (digits d.0 c.3), c.4)) (places_cut k s d.1))

-- the byte after the whole part
pub tail_cut : (k : List Kind) (b : ℕ) (s : List ℕ) → Acc (after_whole k b) s → Part Tail k (b ∷ s)
tail_cut k b s h =
    ⊎_elim
    (λ p. subst (λ x. Part Tail k (x ∷ s)) (sym (eqb-true b 46 p.0)) (pointed_cut k s p.1))
    (λ r. part_then Fraction Exponent Tail k [] (b ∷ s) no_fraction (λ x y p q. (x, y, refl, p, q)) (exponent_cut k b s r.1))
    (by_test s (eqb b 46) _ _ h)

pub zeroed_cut : (k : List Kind) (s : List ℕ) → Acc (live zeroed k) s → Part Tail k s
zeroed_cut k [] h = part_none Tail k [] ([], [], refl, no_fraction, no_exponent) h
zeroed_cut k (b ∷ s) h = tail_cut k b s h

-- more digits, and then the tail
abbrev pub Wholes : List ℕ → Type 0
Wholes x = (ds : List ℕ) × (y : List ℕ) × (x ≡ ds ++ y) × Each digit ds × Tail y

pub whole_cut : (k : List Kind) (s : List ℕ) → Acc (live whole k) s → Part Wholes k s
whole_cut k [] h = part_none Wholes k [] ([], [], refl, no_byte, ([], [], refl, no_fraction, no_exponent)) h
whole_cut k (b ∷ s) h =
    ⊎_elim
    (λ d. part_more Wholes Wholes k b s (λ cs c. (b ∷ c.0, c.1, ap (λ x. b ∷ x) c.2, byte d.0 c.3, c.4)) (whole_cut k s d.1))
    (λ r. part_then (Each digit) Tail Wholes k [] (b ∷ s) no_byte (λ x y p q. (x, y, refl, p, q)) (tail_cut k b s r.1))
    (by_test s (digit b) _ _ h)
