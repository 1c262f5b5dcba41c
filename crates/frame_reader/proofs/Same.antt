-- A text is a frame of one transmission at most, and of none where it is refused. Assumes nothing.
use Rattle.std.proofs.Common.{◌≡◌, ℕ, ◌≤◌, Bool, true, false, cond, eqb, ◌⊎◌, List, [], length, get_or, IsErrAnd, Some, None, Ok, Err, codes, decimal, Option, Result, sym, refl, ap, ◌∙◌, subst, inl, inr, arith, MatchOption, ok_or}
use Rattle.calendar.proofs.Denoted.{reads_back}
use Rattle.calendar.specs.Calendar.{Denotes}
use Rattle.decimal.proofs.Plain.{value_plain}
use Rattle.decimal.specs.Decimal.{value}
use Rattle.event.specs.Lawful.{LawfulTransmission, largest_register}
use Rattle.event.specs.declared.events.EventType.{EventType}
use Rattle.event.specs.declared.events.EventType.TheVariants.{Started, Updated, Ended}
use Rattle.event.specs.declared.events.Transmission.{Transmission}
use Rattle.event.specs.declared.events.TriggerReason.{TriggerReason}
use Rattle.event.specs.declared.events.TriggerReason.TheVariants.{CablePluggedIn, MeterValuePeriodic, EVDeparted}
use Rattle.frame.specs.Call.{Call, NoCall}
use Rattle.frame_reader.specs.Frame.{Called, Frame, Named, Parsed, Reads, ReadsAs, Refused, Says, Tells, Timed, flag, longest}
use Rattle.event.specs.Names.{reason_text, type_text}
use Rattle.frame_reader.specs.Frame.Refused.{too_long, too_deep, not_json, not_a_frame, bad_members, bad_value}
use Rattle.frame.specs.Kinds.{At}
use Rattle.frame_reader.specs.Members.{element_of, element_under}
use Rattle.frame.specs.Members.{under}
use Rattle.frame_reader.specs.Reading.{RegisterTold, SmallRegister}
use Rattle.frame_reader.proofs.Forms.{same_string}
use Rattle.frame.proofs.Fours.{same_four}
use Rattle.frame_reader.proofs.Onlys.{not_both, same_some}
use Rattle.ids.proofs.Leads.{SameNumbers, same_message}
use Rattle.ids.specs.Ids.{MessageWritten}
use Rattle.ids.specs.declared.MessageId.{MessageId}
use Rattle.json_text.proofs.Unique.{one_tree}
use Rattle.json_text.specs.Beginnings.{Deep, IsJson}
use Rattle.json_text.specs.Grammar.{Json, Membs, Text}
use Rattle.json_text.specs.Grammar.Text.{text}
use Rattle.json_text.specs.Grammar.Json.{jnull, jtrue, jfalse, jnumber, jstring, jarray, jobject}
use Rattle.json_text.specs.Grammar.Membs.{no_memb}
use Rattle.refusal.specs.declared.Refusal.{Refusal}
use Rattle.refusal.specs.declared.Refusal.TheVariants.{BadMembers, BadValue, NotAFrame, NotJson, TooDeep}

-- the types and reasons by their first letters
abbrev type_by : ℕ → EventType
type_by b = cond (eqb b 83) Started (cond (eqb b 85) Updated Ended)

type_back : (k : EventType) → type_by (get_or (type_text k) 0 0) ≡ k
type_back Started = refl
type_back Updated = refl
type_back Ended = refl

abbrev reason_by : ℕ → TriggerReason
reason_by b = cond (eqb b 67) CablePluggedIn (cond (eqb b 77) MeterValuePeriodic EVDeparted)

reason_back : (k : TriggerReason) → reason_by (get_or (reason_text k) 0 0) ≡ k
reason_back CablePluggedIn = refl
reason_back MeterValuePeriodic = refl
reason_back EVDeparted = refl

pub same_type : (a b : EventType) → jstring (type_text a) ≡ jstring (type_text b) → a ≡ b
same_type a b e = sym (type_back a) ∙ ap (λ s. type_by (get_or s 0 0)) (same_string e) ∙ type_back b

pub same_reason : (a b : TriggerReason) → jstring (reason_text a) ≡ jstring (reason_text b) → a ≡ b
same_reason a b e = sym (reason_back a) ∙ ap (λ s. reason_by (get_or s 0 0)) (same_string e) ∙ reason_back b

abbrev is_true : Json → Bool
is_true jnull = false
is_true jtrue = true
is_true jfalse = false
is_true (jnumber n) = false
is_true (jstring s) = false
is_true (jarray es) = false
is_true (jobject ms) = false

flag_back : (b : Bool) → is_true (flag b) ≡ b
flag_back true = refl
flag_back false = refl

same_flag : (o : Option Json) (a b : Bool) → MatchOption o (a ≡ false) (λ f. f ≡ flag a) → MatchOption o (b ≡ false) (λ f. f ≡ flag b) → a ≡ b
same_flag None a b e f = e ∙ sym f
same_flag (Some t) a b e f = sym (flag_back a) ∙ ap is_true (sym e ∙ f) ∙ flag_back b

abbrev number_in : Json → List ℕ
number_in jnull = []
number_in jtrue = []
number_in jfalse = []
number_in (jnumber n) = n
number_in (jstring s) = []
number_in (jarray es) = []
number_in (jobject ms) = []

pub same_number : (a b : ℕ) → a ≤ largest_register → b ≤ largest_register → jnumber (decimal a) ≡ jnumber (decimal b) → a ≡ b
same_number a b small small-too e =
    sym (value_plain a (omega arith)) ∙ ap value (ap number_in e) ∙ value_plain b (omega arith)

same_time : (payload : Membs) (a b : ℕ) → Timed payload a → Timed payload b → a ≡ b
same_time payload a b s t =
    reads_back t.written b t.denotes a (subst (λ w. Denotes w a) (same_string (same_some s.is t.is)) s.denotes)

same_register : (payload : Membs) (a b : Option ℕ) → SmallRegister a → SmallRegister b → RegisterTold payload a → RegisterTold payload b → a ≡ b
same_register payload None None m n s t = refl
same_register payload None (Some wh) m n s t = absurd (not_both (ap element_of s) t.meter_is)
same_register payload (Some wh) None m n s t = absurd (not_both (ap element_of t) s.meter_is)
same_register payload (Some a) (Some b) m n s t =
    let meter-same = same_some s.meter_is t.meter_is in
    let sample-same = same_some (subst (λ x. element_under (codes "sampledValue") x ≡ Some s.sample) meter-same s.sample_is) t.sample_is in
    ap Some (same_number a b m n (same_some (subst (λ x. under (codes "value") x ≡ Some (jnumber (decimal a))) sample-same s.value) t.value))

-- a lawful transmission's numbers are those of its message id
abbrev pub message_of : Transmission → MessageId
message_of t = record { station = t.event.station; session = t.event.session; number = t.event.number; attempt = t.attempt }

pub written_of : (id : List ℕ) (payload : Membs) (t : Transmission) → Says id payload t → MessageWritten id (message_of t)
written_of id payload t s =
    let ranges = s.lawful.event.ranges in
    record {
      station_below = omega (arith, ranges.station_to);
      session_below = omega (arith, ranges.session_to);
      number_below = omega (arith, ranges.number_to);
      attempt_below = omega (arith, s.lawful.attempt_to);
      bytes = s.message;
    }

pub small : (t : Transmission) → LawfulTransmission t → SmallRegister t.event.register
small t l = go t.event.register l.event.register
  where
    go : (r : Option ℕ) → MatchOption r (t.event.kind ≡ Updated) (λ wh. wh ≤ largest_register) → SmallRegister r
    go None h = tt
    go (Some wh) h = h

pub same_told : (payload : Membs) (t u : Transmission) → SameNumbers (message_of t) (message_of u) → Tells payload t.event → Tells payload u.event → SmallRegister t.event.register → SmallRegister u.event.register → t ≡ u
same_told payload t u n s v little little-too =
    let kind = same_type _ _ (same_some s.kind v.kind) in
    let time = same_time payload _ _ s.time v.time in
    let offline = same_flag _ _ _ s.offline v.offline in
    let register = same_register payload _ _ little little-too s.register v.register in
    let reason = same_reason _ _ (same_some s.reason v.reason) in
    λ i. record {
      event = record {
        station = n.station i;
        session = n.session i;
        number = n.number i;
        kind = kind i;
        time = time i;
        offline = offline i;
        register = register i;
        reason = reason i;
      };
      attempt = n.attempt i;
    }

pub same_transmission : (id : List ℕ) (payload : Membs) (t u : Transmission) → Says id payload t → Says id payload u → t ≡ u
same_transmission id payload t u s v =
    let n = same_message id (message_of t) (message_of u) (written_of id payload t s) (written_of id payload u v) in
    same_told payload t u n s.tells v.tells (small t s.lawful) (small u v.lawful)

-- a text is one call at most
abbrev members_in : Json → Membs
members_in jnull = no_memb
members_in jtrue = no_memb
members_in jfalse = no_memb
members_in (jnumber n) = no_memb
members_in (jstring s) = no_memb
members_in (jarray es) = no_memb
members_in (jobject ms) = ms

same_call : (bytes id : List ℕ) (payload : Membs) (jd : List ℕ) (other : Membs) → Called bytes id payload → Called bytes jd other → (id ≡ jd) × (payload ≡ other)
same_call bytes id payload jd other c d =
    let tree = one_tree bytes c.tree d.tree c.parsed.is d.parsed.is in
    let g = same_four c.tree _ _ _ _ _ _ _ _ c.call.is (tree ∙ d.call.is) in
    (same_string g.1, ap members_in g.3)

not_refused : (bytes : List ℕ) (why : Refusal) (t : Transmission) → Frame bytes t → Refused bytes why → ⊥
not_refused bytes why t f (too_long long) = omega (arith, f.called.parsed.short)
not_refused bytes why t f (too_deep short deep) = f.called.parsed.shallow deep
not_refused bytes why t f (not_json short shallow none) = none (f.called.tree, f.called.parsed.is)
not_refused bytes why t f (not_a_frame {tree} parsed none) =
    none f.id f.payload (subst (λ u. Call u f.id f.payload) (one_tree bytes f.called.tree tree f.called.parsed.is parsed.is) f.called.call)
not_refused bytes why t f (bad_members {id} {payload} called none) =
    none (subst Named (same_call bytes f.id f.payload id payload f.called called).1 f.named)
not_refused bytes why t f (bad_value {id} {payload} called named none) =
    let same = same_call bytes f.id f.payload id payload f.called called in
    none t (subst (λ p. Says id p t) same.1 (subst (λ j. Says j f.payload t) same.0 f.says))

pub reads_as : (bytes : List ℕ) (r : Result Transmission Refusal) → Reads bytes r → ReadsAs bytes r
reads_as bytes (Ok u) g t f =
    let same = same_call bytes g.id g.payload f.id f.payload g.called f.called in
    ap Ok (same_transmission f.id f.payload u t (subst (λ p. Says f.id p u) same.1 (subst (λ j. Says j g.payload u) same.0 g.says)) f.says)
reads_as bytes (Err why) refused t f = absurd (not_refused bytes why t f refused)

-- a tree that is no call is not that of a text which is one
no_call_called : (bytes : List ℕ) (tree : Json) (id : List ℕ) (payload : Membs) → Parsed bytes tree → NoCall tree → Called bytes id payload → ⊥
no_call_called bytes tree id payload parsed none called =
    none id payload (subst (λ u. Call u id payload) (one_tree bytes called.tree tree called.parsed.is parsed.is) called.call)

-- a text is refused for one reason only
same_refusal : (bytes : List ℕ) (why other : Refusal) → Refused bytes why → Refused bytes other → why ≡ other
same_refusal bytes why other (too_long long1) (too_long long2) = refl
same_refusal bytes why other (too_long long1) (too_deep short2 deep2) = absurd (omega (arith, long1, short2))
same_refusal bytes why other (too_long long1) (not_json short2 shallow2 none2) = absurd (omega (arith, long1, short2))
same_refusal bytes why other (too_long long1) (not_a_frame {tree = tree2} parsed2 none2) = absurd (omega (arith, long1, parsed2.short))
same_refusal bytes why other (too_long long1) (bad_members {id = id2} {payload = payload2} called2 none2) = absurd (omega (arith, long1, called2.parsed.short))
same_refusal bytes why other (too_long long1) (bad_value {id = id2} {payload = payload2} called2 named2 none2) = absurd (omega (arith, long1, called2.parsed.short))
same_refusal bytes why other (too_deep short1 deep1) (too_long long2) = absurd (omega (arith, long2, short1))
same_refusal bytes why other (too_deep short1 deep1) (too_deep short2 deep2) = refl
same_refusal bytes why other (too_deep short1 deep1) (not_json short2 shallow2 none2) = absurd (shallow2 deep1)
same_refusal bytes why other (too_deep short1 deep1) (not_a_frame {tree = tree2} parsed2 none2) = absurd (parsed2.shallow deep1)
same_refusal bytes why other (too_deep short1 deep1) (bad_members {id = id2} {payload = payload2} called2 none2) = absurd (called2.parsed.shallow deep1)
same_refusal bytes why other (too_deep short1 deep1) (bad_value {id = id2} {payload = payload2} called2 named2 none2) = absurd (called2.parsed.shallow deep1)
same_refusal bytes why other (not_json short1 shallow1 none1) (too_long long2) = absurd (omega (arith, long2, short1))
same_refusal bytes why other (not_json short1 shallow1 none1) (too_deep short2 deep2) = absurd (shallow1 deep2)
same_refusal bytes why other (not_json short1 shallow1 none1) (not_json short2 shallow2 none2) = refl
same_refusal bytes why other (not_json short1 shallow1 none1) (not_a_frame {tree = tree2} parsed2 none2) = absurd (none1 (tree2, parsed2.is))
same_refusal bytes why other (not_json short1 shallow1 none1) (bad_members {id = id2} {payload = payload2} called2 none2) = absurd (none1 (called2.tree, called2.parsed.is))
same_refusal bytes why other (not_json short1 shallow1 none1) (bad_value {id = id2} {payload = payload2} called2 named2 none2) = absurd (none1 (called2.tree, called2.parsed.is))
same_refusal bytes why other (not_a_frame {tree = tree1} parsed1 none1) (too_long long2) = absurd (omega (arith, long2, parsed1.short))
same_refusal bytes why other (not_a_frame {tree = tree1} parsed1 none1) (too_deep short2 deep2) = absurd (parsed1.shallow deep2)
same_refusal bytes why other (not_a_frame {tree = tree1} parsed1 none1) (not_json short2 shallow2 none2) = absurd (none2 (tree1, parsed1.is))
same_refusal bytes why other (not_a_frame {tree = tree1} parsed1 none1) (not_a_frame {tree = tree2} parsed2 none2) = refl
same_refusal bytes why other (not_a_frame {tree = tree1} parsed1 none1) (bad_members {id = id2} {payload = payload2} called2 none2) = absurd (no_call_called bytes tree1 id2 payload2 parsed1 none1 called2)
same_refusal bytes why other (not_a_frame {tree = tree1} parsed1 none1) (bad_value {id = id2} {payload = payload2} called2 named2 none2) = absurd (no_call_called bytes tree1 id2 payload2 parsed1 none1 called2)
same_refusal bytes why other (bad_members {id = id1} {payload = payload1} called1 none1) (too_long long2) = absurd (omega (arith, long2, called1.parsed.short))
same_refusal bytes why other (bad_members {id = id1} {payload = payload1} called1 none1) (too_deep short2 deep2) = absurd (called1.parsed.shallow deep2)
same_refusal bytes why other (bad_members {id = id1} {payload = payload1} called1 none1) (not_json short2 shallow2 none2) = absurd (none2 (called1.tree, called1.parsed.is))
same_refusal bytes why other (bad_members {id = id1} {payload = payload1} called1 none1) (not_a_frame {tree = tree2} parsed2 none2) = absurd (no_call_called bytes tree2 id1 payload1 parsed2 none2 called1)
same_refusal bytes why other (bad_members {id = id1} {payload = payload1} called1 none1) (bad_members {id = id2} {payload = payload2} called2 none2) = refl
same_refusal bytes why other (bad_members {id = id1} {payload = payload1} called1 none1) (bad_value {id = id2} {payload = payload2} called2 named2 none2) = absurd (none1 (subst Named (same_call bytes id2 payload2 id1 payload1 called2 called1).1 named2))
same_refusal bytes why other (bad_value {id = id1} {payload = payload1} called1 named1 none1) (too_long long2) = absurd (omega (arith, long2, called1.parsed.short))
same_refusal bytes why other (bad_value {id = id1} {payload = payload1} called1 named1 none1) (too_deep short2 deep2) = absurd (called1.parsed.shallow deep2)
same_refusal bytes why other (bad_value {id = id1} {payload = payload1} called1 named1 none1) (not_json short2 shallow2 none2) = absurd (none2 (called1.tree, called1.parsed.is))
same_refusal bytes why other (bad_value {id = id1} {payload = payload1} called1 named1 none1) (not_a_frame {tree = tree2} parsed2 none2) = absurd (no_call_called bytes tree2 id1 payload1 parsed2 none2 called1)
same_refusal bytes why other (bad_value {id = id1} {payload = payload1} called1 named1 none1) (bad_members {id = id2} {payload = payload2} called2 none2) = absurd (none2 (subst Named (same_call bytes id1 payload1 id2 payload2 called1 called2).1 named1))
same_refusal bytes why other (bad_value {id = id1} {payload = payload1} called1 named1 none1) (bad_value {id = id2} {payload = payload2} called2 named2 none2) = refl

-- there is one answer to a text
pub same_answer : (bytes : List ℕ) (r other : Result Transmission Refusal) → Reads bytes r → Reads bytes other → other ≡ r
same_answer bytes (Ok t) other g h = reads_as bytes other h t g
same_answer bytes (Err why) (Ok u) g h = sym (reads_as bytes (Err why) g u h)
same_answer bytes (Err why) (Err other) g h = ap Err (same_refusal bytes other why h g)

-- what the check of the text refused
pub not_checked : (bytes : List ℕ) (r : Result Transmission Refusal) (why : Refusal) → length bytes ≤ longest → IsErrAnd r (λ e. e ≡ why)
    → ((why ≡ TooDeep) × Deep bytes) ⊎ ((why ≡ NotJson) × (IsJson bytes → ⊥) × (Deep bytes → ⊥)) → Reads bytes r
not_checked bytes (Ok t) why short e judged = absurd e
not_checked bytes (Err e) why short same (inl (is, deep)) = subst (Refused bytes) (sym (same ∙ is)) (too_deep short deep)
not_checked bytes (Err e) why short same (inr (is, none, shallow)) = subst (Refused bytes) (sym (same ∙ is)) (not_json short shallow none)

pub not_named : (bytes id : List ℕ) (payload : Membs) (r : Result Transmission Refusal) (why : Refusal) → Called bytes id payload → IsErrAnd r (λ e. e ≡ why) → why ≡ BadMembers → (Named payload → ⊥)
    → Reads bytes r
not_named bytes id payload (Ok t) why called e is none = absurd e
not_named bytes id payload (Err e) why called same is none = subst (Refused bytes) (sym (same ∙ is)) (bad_members called none)

pub at_text : (tree : Json) (bytes : List ℕ) → Text tree bytes → At tree bytes
at_text tree bytes (text {w = w} {v = v} {x = x} w-is v-is x-is) = record { front = w; value = v; behind = x; whole = refl; white = w-is; is = v-is }

-- no call was found
pub not_called : {A : Type 0} (P : A → Type 0) (bytes : List ℕ) (tree : Json) (o : Option A) (r : Result Transmission Refusal) (why : Refusal) → Parsed bytes tree → IsErrAnd r (λ e. e ≡ why) → Err why ≡ ok_or o NotAFrame → MatchOption o (NoCall tree) P → Reads bytes r
not_called P bytes tree o (Ok t) why parsed e is found = absurd e
not_called P bytes tree None (Err e) why parsed same is none = let named : why ≡ NotAFrame = cc in subst (Refused bytes) (sym (same ∙ named)) (not_a_frame parsed none)
not_called P bytes tree (Some a) (Err e) why parsed same is found = cc

-- the answer by what the call says
pub answered : (bytes id : List ℕ) (payload : Membs) (o : Option Transmission) → Called bytes id payload → Named payload → MatchOption o ((t : Transmission) → Says id payload t → ⊥) (Says id payload) → Reads bytes (ok_or o BadValue)
answered bytes id payload None called named none = bad_value called named none
answered bytes id payload (Some t) called named says = record { id = id; payload = payload; called = called; named = named; says = says }
