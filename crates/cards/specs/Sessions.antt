-- The worked examples of the collector: runs, and a statement. Assumes nothing.
use Rattle.std.specs.Prelude.{◌≡◌, ℕ, false, List, [], ◌∷◌, ◌++◌, map, Some, None, Ok, Err, codes, Option}
use Rattle.event.specs.declared.events.Event.{Event}
use Rattle.event.specs.declared.events.EventType.{EventType}
use Rattle.event.specs.declared.events.EventType.TheVariants.{Started, Updated, Ended}
use Rattle.event.specs.declared.events.TriggerReason.TheVariants.{MeterValuePeriodic}
use Rattle.ids.specs.declared.TransactionId.{TransactionId}
use Rattle.ledger.specs.Held.{runs_of}
use Rattle.ledger.specs.Kept.{most_events, most_rows}
use Rattle.ledger.specs.Take.{Outcome, Takes}
use Rattle.ledger.specs.declared.taken.Taken.TheVariants.{Held}
use Rattle.refusal.specs.declared.Refusal.TheVariants.{TooManyRuns}
use Rattle.runs.specs.declared.run.Run.{Run}
use Rattle.statement.specs.Statement.{statement_bytes}

-- an event of 2026-03-01T09:00:00Z; times, flags and trigger reasons have no part in the examples
abbrev pub event_of : (station session number : ℕ) → EventType → Option ℕ → Event
event_of station session number kind register =
    record {
      station = station;
      session = session;
      number = number;
      kind = kind;
      time = 825670800;
      offline = false;
      register = register;
      reason = MeterValuePeriodic;
    }

-- taking the event into a ledger with all its places, where the events are held
abbrev pub Taking : List Event → Event → Outcome → List Event → Type 0
Taking before e r after = Takes most_events most_rows before e r after

-- each event is held, in this order
abbrev pub AllHeld : List Event → List Event → Type 0
AllHeld before [] = Unit {0}
AllHeld before (e ∷ events) = Taking before e (Ok Held) (before ++ e ∷ []) × AllHeld (before ++ e ∷ []) events

-- session 3 of station 17: its start, and updates without a register
abbrev pub session_3 : TransactionId
session_3 = record { station = 17; session = 3 }

abbrev pub start : Event
start = event_of 17 3 0 Started (Some 1250)

abbrev pub update : ℕ → Event
update n = event_of 17 3 n Updated None

-- the numbers 0, 2, .. 30, each a run by itself
abbrev pub sixteen_runs : List Event
sixteen_runs = start ∷ map update (2 ∷ 4 ∷ 6 ∷ 8 ∷ 10 ∷ 12 ∷ 14 ∷ 16 ∷ 18 ∷ 20 ∷ 22 ∷ 24 ∷ 26 ∷ 28 ∷ 30 ∷ [])

abbrev pub alone : ℕ → Run
alone n = record { first = n; last = n }

-- two sessions, in the order in which they arrive
abbrev pub two_sessions : List Event
two_sessions =
    event_of 17 3 0 Started (Some 1250) ∷ event_of 17 3 1 Updated (Some 1800) ∷ event_of 17 3 2 Ended (Some 13750) ∷ event_of 22 1 1 Updated None ∷ event_of 22 1 4 Ended (Some 900) ∷ []

pub record SessionCards : Type 0 where
  -- the sixteen runs are held; number 32 would open one more, 31 widens the last, and 17 joins two
  pub runs_held : AllHeld [] sixteen_runs
  pub runs_are : runs_of sixteen_runs session_3 ≡ map alone (0 ∷ 2 ∷ 4 ∷ 6 ∷ 8 ∷ 10 ∷ 12 ∷ 14 ∷ 16 ∷ 18 ∷ 20 ∷ 22 ∷ 24 ∷ 26 ∷ 28 ∷ 30 ∷ [])
  pub one_too_many : Taking sixteen_runs (update 32) (Err TooManyRuns) sixteen_runs
  pub last_widened : Taking sixteen_runs (update 31) (Ok Held) (sixteen_runs ++ update 31 ∷ [])
  pub two_joined : Taking sixteen_runs (update 17) (Ok Held) (sixteen_runs ++ update 17 ∷ [])
  pub joined_are : runs_of (sixteen_runs ++ update 17 ∷ []) session_3 ≡ map alone (0 ∷ 2 ∷ 4 ∷ 6 ∷ 8 ∷ 10 ∷ 12 ∷ 14 ∷ []) ++ record { first = 16; last = 18 } ∷ map alone (20 ∷ 22 ∷ 24 ∷ 26 ∷ 28 ∷ 30 ∷ [])
  -- a session that is billed and one that is open, and their statement at 350 thousandths for each kWh
  pub sessions_held : AllHeld [] two_sessions
  pub statement_is : statement_bytes two_sessions 350 ≡ codes "B 00017-00000003 12500 438\nO 00022-00000001 3 held 0-0,2-3\nT 1 1\n"
