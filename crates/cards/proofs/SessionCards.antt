-- The collector's worked examples hold, by computing its definitions. Assumes nothing.
use Rattle.std.proofs.Common.{◌≡◌, ℕ, ◌<◌, ◌≤◌, Bool, true, false, not, ◌&&◌, ltb, leb, List, [], ◌∷◌, ◌++◌, map, length, Some, None, Ok, Err, codes, refl, arith, lit<}
use Rattle.std.proofs.lemmas.Bool.{and_parts, leb-true, ltb-true, not-true}
use Rattle.std.specs.Fmt.{digits}
use Rattle.std.specs.List.{AllByRecursion}
use Rattle.statement.specs.Statement.{statement_bytes}
use Rattle.decimal.specs.Decimal.{fixed}
use Rattle.event.specs.Lawful.{Lawful}
use Rattle.event.specs.declared.events.Event.{Event}
use Rattle.event.specs.declared.events.EventType.TheVariants.{Started, Updated, Ended}
use Rattle.ledger.proofs.Deciding.{many, taken}
use Rattle.ledger.specs.Held.{any, belongs, held, runs_of, session_of, sessions}
use Rattle.ledger.specs.Kept.{most_events, most_rows}
use Rattle.ledger.specs.Order.{disordered, past_end}
use Rattle.ledger.specs.declared.taken.Taken.TheVariants.{Held}
use Rattle.runs.specs.Stretches.{most_runs}
use Rattle.refusal.specs.declared.Refusal.TheVariants.{TooManyRuns}
use Rattle.cards.specs.Sessions.{AllHeld, SessionCards, Taking, event_of, sixteen_runs, start, two_sessions, update}

-- the five events of the two sessions, and updates, are lawful
updated_kind : Updated ≡ Started → ⊥
updated_kind e = let z : ◌≡◌ {A = ℕ} 0 1 = cc in omega arith

ended_kind : Ended ≡ Started → ⊥
ended_kind e = let z : ◌≡◌ {A = ℕ} 0 1 = cc in omega arith

lawful_update : (station session n : ℕ) → station ≤ 65535 → 1 ≤ session → session ≤ 99999999 → 0 < n → n ≤ 9999 → Lawful (event_of station session n Updated None)
lawful_update station session n a b c p q =
    record { ranges = omega arith; zero_started = λ z. absurd (omega arith); started_zero = λ e. absurd (updated_kind e); register = refl }

lawful_reading : (station session n wh : ℕ) → station ≤ 65535 → 1 ≤ session → session ≤ 99999999 → 0 < n → n ≤ 9999 → wh ≤ 1000000000 → Lawful (event_of station session n Updated (Some wh))
lawful_reading station session n wh a b c p q r =
    record { ranges = omega arith; zero_started = λ z. absurd (omega arith); started_zero = λ e. absurd (updated_kind e); register = r }

lawful_start : (station session wh : ℕ) → station ≤ 65535 → 1 ≤ session → session ≤ 99999999 → wh ≤ 1000000000 → Lawful (event_of station session 0 Started (Some wh))
lawful_start station session wh a b c r = record { ranges = omega arith; zero_started = λ _. refl; started_zero = λ _. refl; register = r }

lawful_end : (station session n wh : ℕ) → station ≤ 65535 → 1 ≤ session → session ≤ 99999999 → 0 < n → n ≤ 9999 → wh ≤ 1000000000 → Lawful (event_of station session n Ended (Some wh))
lawful_end station session n wh a b c p q r =
    record { ranges = omega arith; zero_started = λ z. absurd (omega arith); started_zero = λ e. absurd (ended_kind e); register = r }

-- an event that passes each check is held
held_then : (events : List Event) (e : Event) → Lawful e → length events < most_events → length (sessions events) < most_rows → held events (session_of e) e.number ≡ false → any (λ f. belongs (session_of e) f && past_end e f) events ≡ false → any (λ f. belongs (session_of e) f && disordered e f) events ≡ false → length (runs_of (events ++ e ∷ []) (session_of e)) ≤ most_runs → Taking events e (Ok Held) (events ++ e ∷ [])
held_then events e lawful room rows fresh ends order runs =
    record {
      answer = taken most_events most_rows events e lawful (λ full. omega arith) fresh (λ h. omega (arith, h.1)) ends order (λ h. omega arith);
      held = refl;
    }

-- whether it passes them, as one test
abbrev passes : List Event → Event → Bool
passes events e =
    ltb (length events) most_events && (ltb (length (sessions events)) most_rows && (not (held events (session_of e) e.number)
    && (not (any (λ f. belongs (session_of e) f && past_end e f) events) && (not (any (λ f. belongs (session_of e) f && disordered e f) events)
    && leb (length (runs_of (events ++ e ∷ []) (session_of e))) most_runs))))

held_passed : (events : List Event) (e : Event) → Lawful e → passes events e ≡ true → Taking events e (Ok Held) (events ++ e ∷ [])
held_passed events e lawful h =
    let a = and_parts (ltb (length events) most_events) _ h in
    let b = and_parts (ltb (length (sessions events)) most_rows) _ a.1 in
    let c = and_parts (not (held events (session_of e) e.number)) _ b.1 in
    let d = and_parts (not (any (λ f. belongs (session_of e) f && past_end e f) events)) _ c.1 in
    let f = and_parts (not (any (λ g. belongs (session_of e) g && disordered e g) events)) _ d.1 in
    held_then events e lawful (ltb-true _ _ a.0) (ltb-true _ _ b.0) (not-true _ c.0) (not-true _ d.0) (not-true _ f.0) (leb-true _ _ f.1)

abbrev all_pass : List Event → List Event → Bool
all_pass before [] = true
all_pass before (e ∷ events) = passes before e && all_pass (before ++ e ∷ []) events

all_held : (before events : List Event) → AllByRecursion Lawful events → all_pass before events ≡ true → AllHeld before events
all_held before [] l h = tt
all_held before (e ∷ events) l h =
    let parts = and_parts (passes before e) _ h in
    (held_passed before e l.0 parts.0, all_held (before ++ e ∷ []) events l.1 parts.1)

-- updates of numbers in range
abbrev in_range : List ℕ → Bool
in_range [] = true
in_range (n ∷ ns) = (ltb 0 n && leb n 9999) && in_range ns

lawful_number : (n : ℕ) → (ltb 0 n && leb n 9999) ≡ true → Lawful (update n)
lawful_number n h = let parts = and_parts (ltb 0 n) _ h in lawful_update 17 3 n (omega arith) (omega arith) (omega arith) (ltb-true _ _ parts.0) (leb-true _ _ parts.1)

lawful_updates : (ns : List ℕ) → in_range ns ≡ true → AllByRecursion Lawful (map update ns)
lawful_updates [] h = tt
lawful_updates (n ∷ ns) h = let parts = and_parts (ltb 0 n && leb n 9999) _ h in (lawful_number n parts.0, lawful_updates ns parts.1)

lawful_first : Lawful start
lawful_first = lawful_start 17 3 1250 (omega arith) (omega arith) (omega arith) (omega arith)

runs_held : AllHeld [] sixteen_runs
runs_held = all_held [] sixteen_runs (lawful_first, lawful_updates (2 ∷ 4 ∷ 6 ∷ 8 ∷ 10 ∷ 12 ∷ 14 ∷ 16 ∷ 18 ∷ 20 ∷ 22 ∷ 24 ∷ 26 ∷ 28 ∷ 30 ∷ []) refl) refl

one_too_many : Taking sixteen_runs (update 32) (Err TooManyRuns) sixteen_runs
one_too_many =
    record {
      answer = many most_events most_rows sixteen_runs (update 32) (lawful_number 32 refl) (λ full. omega arith) refl (λ h. omega (arith, h.1)) refl refl (lit< tt);
      held = refl;
    }

sessions_held : AllHeld [] two_sessions
sessions_held =
    all_held [] two_sessions (
      lawful_first,
      (
        lawful_reading 17 3 1 1800 (omega arith) (omega arith) (omega arith) (omega arith) (omega arith) (omega arith),
        (
          lawful_end 17 3 2 13750 (omega arith) (omega arith) (omega arith) (omega arith) (omega arith) (omega arith),
          (
            lawful_update 22 1 1 (omega arith) (omega arith) (omega arith) (omega arith) (omega arith),
            (
              lawful_end 22 1 4 900 (omega arith) (omega arith) (omega arith) (omega arith) (omega arith) (omega arith),
              tt,
            ),
          ),
        ),
      ),
    )
    refl

statement_is : statement_bytes two_sessions 350 ≡ codes "B 00017-00000003 12500 438\nO 00022-00000001 3 held 0-0,2-3\nT 1 1\n"
unfolding fixed digits
statement_is = refl

pub session_cards : SessionCards
session_cards =
    record {
      runs_held = runs_held;
      runs_are = refl;
      one_too_many = one_too_many;
      last_widened = held_passed sixteen_runs (update 31) (lawful_number 31 refl) refl;
      two_joined = held_passed sixteen_runs (update 17) (lawful_number 17 refl) refl;
      joined_are = refl;
      sessions_held = sessions_held;
      statement_is = statement_is;
    }
