-- From the machine's run to what is said of the bytes. Assumes nothing.
use Rattle.std.proofs.Common.{◌≡◌, ℕ, zero, suc, ◌+◌, ◌-◌, ◌<◌, ◌≤◌, Bool, true, false, ◌⊎◌, List, [], ◌∷◌, length, get_or, take, drop, sym, refl, ap, ◌∙◌, subst, inl, inr, ⊎_elim, arith, take-add}
use Rattle.std.proofs.lemmas.List.{get_or-drop, take_all, take_more, take-take, take-append-drop}
use Rattle.std.proofs.lemmas.Bool.{cases_lt, false≢true}
use Rattle.std.proofs.lemmas.Bool.Decides.{nat_tests}
use Rattle.json_text.specs.Beginnings.{Deep, IsJson, TooDeepAt, deepest}
use Rattle.json_text.specs.Machine.{Kind, State, accepts, begin, closed, run, step}
use Rattle.json_text.specs.Grammar.{plain}
use Rattle.json_text.specs.Machine.Mode.{chars}
use Rattle.json_text.specs.Machine.State.{dead, live}
use Rattle.json_text.specs.Parts.{PlainTo}
use Rattle.json_text.specs.Verdict.{Passes, Shallow, TooFar, state_of}
use Rattle.json_text.specs.declared.scanner.Scanner.{Scanner}
use Rattle.refusal.specs.declared.Refusal.{Refusal}
use Rattle.refusal.specs.declared.Refusal.TheVariants.{NotJson, TooDeep}
use Rattle.json_text.proofs.Alive.{begins_live, live_begins, live_depth}
use Rattle.json_text.proofs.Complete.{text_accepted}
use Rattle.json_text.proofs.Plains.{gone_on}
use Rattle.json_text.proofs.Runs.{run_append, run_dead}
use Rattle.json_text.proofs.Sound.{accepted_text}
use Rattle.json_text.proofs.Stacks.{length_stack}

-- none of the first i prefixes has gone too deep
abbrev pub ShallowTo : List ℕ → ℕ → Type 0
ShallowTo text i = (n : ℕ) → n ≤ i → Shallow (run begin (take n text))

pub run_more : (text : List ℕ) (i : ℕ) → i < length text → run begin (take (i + 1) text) ≡ step (run begin (take i text)) (get_or text i 0)
run_more text i h = ap (run begin) (take_more text i 0 h) ∙ run_append begin (take i text) (get_or text i 0 ∷ [])

-- once dead, dead to the end
dead_on : (text : List ℕ) (i n : ℕ) → i ≤ n → run begin (take i text) ≡ dead → run begin (take n text) ≡ dead
dead_on text i n h e =
    let front = take i (take n text) in
    let back = drop i (take n text) in
    ap (run begin) (sym (take-append-drop i (take n text))) ∙ run_append begin front back
    ∙ ap (λ s. run s back) (ap (run begin) (take-take i n text h) ∙ e) ∙ run_dead back

-- a state that is known to be shallow is not too deep where it is a beginning
not_deep_at : (text : List ℕ) (n : ℕ) (s : State) → run begin (take n text) ≡ s → Shallow s → TooDeepAt text n → ⊥
not_deep_at text n dead e h d = begins_live (take n text) d.begins e
not_deep_at text n (live m k) e h d = omega (arith, d.deep, live_depth (take n text) m k e)

-- shallow up to i, and dead after it or at the end
pub not_deep : (text : List ℕ) (i : ℕ) → ShallowTo text i → (length text ≤ i) ⊎ (run begin (take (i + 1) text) ≡ dead) → Deep text → ⊥
not_deep text i shallow end (n, d) =
    ⊎_elim
    (λ past. ⊎_elim
    (λ all. absurd (omega (arith, d.within)))
    (λ e. begins_live (take n text) d.begins (dead_on text (i + 1) n (omega arith) e))
    end)
    (λ within. not_deep_at text n _ refl (shallow n within) d)
    (cases_lt i n)

pub is_json : (text : List ℕ) → accepts (run begin text) ≡ true → IsJson text
is_json text h = accepted_text text h

pub not_json : (text : List ℕ) → accepts (run begin text) ≡ false → IsJson text → ⊥
not_json text h (t, is) = false≢true (sym h ∙ text_accepted is)

pub dead_not_json : (text : List ℕ) (i : ℕ) → i < length text → run begin (take (i + 1) text) ≡ dead → IsJson text → ⊥
dead_not_json text i h e = not_json text (ap accepts (ap (run begin) (sym (take_all (length text) text (omega arith))) ∙ dead_on text (i + 1) (length text) (omega arith) e))

pub is_deep : (text : List ℕ) (i : ℕ) → i < length text → TooFar (run begin (take (i + 1) text)) → Deep text
is_deep text i h far = (
  i + 1,
  record {
    within = omega arith;
    begins = live_begins (take (i + 1) text) far.mode far.kinds far.is;
    deep = omega (arith, far.deep, live_depth (take (i + 1) text) far.mode far.kinds far.is);
  },
)

pub at_end : (text : List ℕ) (i : ℕ) (s : State) → length text ≤ i → run begin (take i text) ≡ s → run begin text ≡ s
at_end text i s h e = ap (run begin) (sym (take_all i text h)) ∙ e

pub shallow_scanner : (s : Scanner) → Shallow (state_of s)
shallow_scanner s = omega (arith, s.shallow, length_stack s.containers.now.items)

-- the byte at i was refused
pub stopped : (text : List ℕ) (i b : ℕ) (why : Refusal) (s : State) → i < length text → run begin (take i text) ≡ s → b ≡ get_or text i 0 → ShallowTo text i → ((why ≡ NotJson) × (step s b ≡ dead)) ⊎ ((why ≡ TooDeep) × TooFar (step s b)) → ((why ≡ TooDeep) × Deep text) ⊎ ((why ≡ NotJson) × (IsJson text → ⊥) × (Deep text → ⊥))
stopped text i b why s h e read shallow told =
    let here : run begin (take (i + 1) text) ≡ step s b = run_more text i h ∙ (λ j. step (e j) (sym read j)) in
    ⊎_elim
    (λ p. inr (p.0, dead_not_json text i h (here ∙ p.1), not_deep text i shallow (inr (here ∙ p.1))))
    (λ p. inl (p.0, is_deep text i h (subst TooFar (sym here) p.1)))
    told

-- on from the place i
pub run_on : (text : List ℕ) (i n : ℕ) (s t : State) → run begin (take i text) ≡ s → run s (take n (drop i text)) ≡ t → run begin (take (i + n) text) ≡ t
run_on text i n s t e f =
    ap (run begin) (take-add i n text) ∙ run_append begin (take i text) (take n (drop i text)) ∙ ap (λ u. run u (take n (drop i text))) e ∙ f

pub shallow_on : (text : List ℕ) (i n : ℕ) (s : State) → run begin (take i text) ≡ s → ShallowTo text i → ((m : ℕ) → m ≤ n → Shallow (run s (take m (drop i text)))) → ShallowTo text (i + n)
shallow_on text i n s e before after k h =
    ⊎_elim
    (λ past. subst (λ j. Shallow (run begin (take j text))) (let z : i + (k - i) ≡ k = omega arith in z) (subst Shallow (sym (run_on text i (k - i) s _ e refl)) (after (k - i) (omega arith))))
    (λ within. before k within)
    (cases_lt i k)

plain_stays : (name : Bool) (k : List Kind) (b : ℕ) → plain b ≡ true → step (live (chars name) k) b ≡ live (chars name) k
plain_stays name k b h = grind (arith, nat_tests)

-- one byte more after the first n
one_on : (s t : State) (xs : List ℕ) (n : ℕ) → n < length xs → run s (take n xs) ≡ t → run s (take (n + 1) xs) ≡ step t (get_or xs n 0)
one_on s t xs n h e = ap (run s) (take_more xs n 0 h) ∙ run_append s (take n xs) (get_or xs n 0 ∷ []) ∙ ap (λ u. step u (get_or xs n 0)) e

-- bytes that stand for themselves leave the machine in the string
plain_run : (name : Bool) (k : List Kind) (xs : List ℕ) (n : ℕ) → n ≤ length xs → PlainTo n xs → run (live (chars name) k) (take n xs) ≡ live (chars name) k
plain_run name k xs zero h all = refl
plain_run name k xs (suc n) h all =
    let s = live (chars name) k in
    subst (λ m. run s (take m xs) ≡ s) (let z : n + 1 ≡ suc n = omega arith in z)
    (one_on s s xs n (omega arith) (plain_run name k xs n (omega arith) (λ j less. all j (omega arith))) ∙ plain_stays name k (get_or xs n 0) (all n (omega arith)))

pub plain_passes : (name : Bool) (k : List Kind) (xs : List ℕ) (n : ℕ) → length k ≤ deepest → n ≤ length xs → PlainTo n xs → Passes (live (chars name) k) n xs (live (chars name) k)
plain_passes name k xs n small h all = record {
  runs = plain_run name k xs n h all;
  shallow = λ m less. subst Shallow (sym (plain_run name k xs m (omega arith) (λ j within. all j (omega arith)))) small;
}

closed_small : (name : Bool) (k : List Kind) → length k ≤ deepest → Shallow (closed name k)
closed_small true k h = h
closed_small false k h = h

-- and the closing quote
pub string_passes : (name : Bool) (k : List Kind) (xs : List ℕ) (n : ℕ) → length k ≤ deepest → n < length xs → PlainTo n xs → get_or xs n 0 ≡ 34 → Passes (live (chars name) k) (n + 1) xs (closed name k)
string_passes name k xs n small h all quote =
    let s = live (chars name) k in
    let before = plain_passes name k xs n small (omega arith) all in
    let closes : run s (take (n + 1) xs) ≡ closed name k = one_on s s xs n h before.runs ∙ ap (step s) quote in
    record {
      runs = closes;
      shallow = λ m less. ⊎_elim
          (λ past. subst (λ j. Shallow (run s (take j xs))) (let z : n + 1 ≡ m = omega arith in z) (subst Shallow (sym closes) (closed_small name k small)))
          (λ within. before.shallow m within)
          (cases_lt n m);
    }

-- no byte is passed
pub none_passes : (s : Scanner) (xs : List ℕ) → Passes (state_of s) 0 xs (state_of s)
none_passes s xs = record {
  runs = refl;
  shallow = λ m h. subst (λ j. Shallow (run (state_of s) (take j xs))) (let z : 0 ≡ m = omega arith in z) (shallow_scanner s);
}

-- the machine is in this state where these bytes are left of the text, and has not gone too deep
pub record Reached (text left : List ℕ) (s : State) : Type 0 where
  pub bound : length left ≤ length text
  pub is : left ≡ drop (length text - length left) text
  pub runs : run begin (take (length text - length left) text) ≡ s
  pub shallow : ShallowTo text (length text - length left)

-- n bytes more
pub reached_on : (text left : List ℕ) (s to : State) (n : ℕ) (after : List ℕ) → Reached text left s → Passes s n left to → n ≤ length left → after ≡ drop n left → Reached text after to
reached_on text left s to n after r p room is =
    let i = length text - length left in
    let g = gone_on text left after n r.bound r.is room is in
    record {
      bound = g.1;
      is = g.2;
      runs = subst (λ m. run begin (take m text) ≡ to) g.0 (run_on text i n s to r.runs (subst (λ l. run s (take n l) ≡ to) r.is p.runs));
      shallow = subst (ShallowTo text) g.0 (shallow_on text i n s r.runs r.shallow (λ m h. subst (λ l. Shallow (run s (take m l))) r.is (p.shallow m h)));
    }

-- the state that was reached is shallow
reached_shallow : (text left : List ℕ) (s : State) → Reached text left s → Shallow s
reached_shallow text left s r = subst Shallow r.runs (r.shallow (length text - length left) (omega arith))

one_pass : (s to : State) (b : ℕ) (rest : List ℕ) → to ≡ step s b → Shallow s → Shallow to → Passes s 1 (b ∷ rest) to
one_pass s to b rest e from on = record {
  runs = sym e;
  shallow = λ m h. ⊎_elim
      (λ one. subst (λ k. Shallow (run s (take k (b ∷ rest)))) (let z : 1 ≡ m = omega arith in z) (subst Shallow e on))
      (λ none. subst (λ k. Shallow (run s (take k (b ∷ rest)))) (let z : 0 ≡ m = omega arith in z) from)
      (cases_lt 0 m);
}

-- one byte more
pub reached_step : (text left : List ℕ) (s to : State) → Reached text left s → 0 < length left → to ≡ step s (get_or left 0 0) → Shallow to → Reached text (drop 1 left) to
reached_step text [] s to r some e h = absurd (omega arith)
reached_step text (b ∷ rest) s to r some e h = reached_on text (b ∷ rest) s to 1 rest r (one_pass s to b rest e (reached_shallow text (b ∷ rest) s r) h) (omega arith) refl

-- the next byte was refused
pub stopped_at : (text left : List ℕ) (why : Refusal) (s : State) → Reached text left s → 0 < length left → ((why ≡ NotJson) × (step s (get_or left 0 0) ≡ dead)) ⊎ ((why ≡ TooDeep) × TooFar (step s (get_or left 0 0))) → ((why ≡ TooDeep) × Deep text) ⊎ ((why ≡ NotJson) × (IsJson text → ⊥) × (Deep text → ⊥))
stopped_at text left why s r some told =
    let i = length text - length left in
    let read : get_or left 0 0 ≡ get_or text i 0 = ap (λ l. get_or l 0 0) r.is ∙ get_or-drop i text 0 0 ∙ ap (λ k. get_or text k 0) (let z : i + 0 ≡ i = omega arith in z) in
    stopped text i (get_or left 0 0) why s (omega (arith, r.bound)) r.runs read r.shallow told

-- the whole text was read
pub all_read : (text left : List ℕ) (s : State) → Reached text left s → length left < 1 → (run begin text ≡ s) × (Deep text → ⊥)
all_read text left s r none =
    let i = length text - length left in
    (at_end text i s (omega (arith, r.bound)) r.runs, not_deep text i r.shallow (inl (omega (arith, r.bound))))
