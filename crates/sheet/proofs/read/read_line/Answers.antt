use Rattle.std.proofs.Common.{◌≡◌, ◌+◌, List, ℕ, length, sym, ap, ◌∙◌, subst, arith}
use Rattle.std.proofs.lemmas.Result.{err_from_is_err_and}
use Rattle.event.specs.Lawful.{largest_register}
use Rattle.ids.specs.Ids.{Id, NoId}
use Rattle.sheet.specs.Sheet.{NoNumber, Number, Refused, Wrong, ended_field, place_of, started_field}
use Rattle.sheet.specs.Sheet.Wrong.{falling, in_ended, in_id, in_started}
use Rattle.sheet.specs.declared.entry.Field.{Field}
use Rattle.sheet.specs.declared.entry.Misread.{Misread}
use Rattle.sheet.specs.declared.entry.Field.TheVariants.{Ended, Started}
use Rattle.sheet.specs.declared.entry.Field.TheVariants.{Id as IdField}
use Rattle.sheet.proofs.read.read_line.Goals as goal
use Rattle.sheet.proofs.read.read_line.Goals.{After-cut-2}
use Rattle.split.specs.Split.{after, before}

-- the second and the third field are those of the line, as the first is
started_is : (c : After-cut-2) → c.cut-2.result.0.now ≡ started_field c.args.line.now
started_is c = c.cut-2.ensures.front ∙ ap (before 32) c.cut.ensures.back

ended_is : (c : After-cut-2) → c.cut-2.result.1.now ≡ ended_field c.args.line.now
ended_is c = c.cut-2.ensures.back ∙ ap (after 32) c.cut.ensures.back

-- where the ended register stands
ended_at : (c : After-cut-2) → length c.cut.result.0.now + 2 + length c.cut-2.result.0.now + 1 ≡ place_of Ended c.args.line.now
ended_at c = omega (arith, ap length c.cut.ensures.front, ap length (started_is c))

-- what is wrong with a field is told with it and its place
told : (line : List ℕ) (m : Misread) (field : Field) → m.field ≡ field → m.place ≡ place_of field line → Wrong line field m.why → Refused line m
told line m field is at wrong =
    record { place = at ∙ ap (λ f. place_of f line) (sym is); why = subst (λ f. Wrong line f m.why) (sym is) wrong }

pub returns-in_err-id : goal.returns-in_err-id
returns-in_err-id c =
    let m = c.in_err-id.field-0.0 in
    let e = c.in_err-id.ensures in
    let p = err_from_is_err_and c.from_residual.result c.from_residual.ensures.1 in
    rw (p.1, p.2) (told c.args.line.now m IdField e.0 e.1 (in_id (subst (λ l. NoId l m.why) c.cut.ensures.front e.2)))

pub returns-in_err-started : goal.returns-in_err-started
returns-in_err-started c =
    let at = (goal.at.returns-in_err-started c).After-cut-2 in
    let m = c.in_err-started.field-0.0 in
    let e = c.in_err-started.ensures in
    let id = c.in_ok-id.id in
    let p = err_from_is_err_and c.from_residual-in_err-started.result c.from_residual-in_err-started.ensures.1 in
    rw (p.1, p.2) (told c.args.line.now m Started e.0 (e.1 ∙ ap (λ l. length l + 2) c.cut.ensures.front)
    (in_started (record { id = id; started = 0; ended = 0 })
    (subst (λ l. Id l id) c.cut.ensures.front c.in_ok-id.ensures)
    (subst (λ l. NoNumber largest_register l m.why) (started_is at) e.2)))

pub returns-in_err-ended : goal.returns-in_err-ended
returns-in_err-ended c =
    let at = (goal.at.returns-in_err-ended c).After-cut-2 in
    let m = c.in_err-ended.field-0.0 in
    let e = c.in_err-ended.ensures in
    let id = c.in_ok-id.id in
    let started = c.in_ok-started.started in
    let p = err_from_is_err_and c.from_residual-in_err-ended.result c.from_residual-in_err-ended.ensures.1 in
    rw (p.1, p.2) (told c.args.line.now m Ended e.0 (e.1 ∙ ended_at at)
    (in_ended (record { id = id; started = started; ended = 0 })
    (subst (λ l. Id l id) c.cut.ensures.front c.in_ok-id.ensures)
    (subst (λ l. Number largest_register l started) (started_is at) c.in_ok-started.ensures)
    (subst (λ l. NoNumber largest_register l m.why) (ended_is at) e.2)))

pub returns-then-ended-started : goal.returns-then-ended-started
returns-then-ended-started c =
    let at = (goal.at.returns-then-ended-started c).After-cut-2 in
    let id = c.in_ok-id.id in
    let started = c.in_ok-started.started in
    let ended = c.in_ok-ended.ended in
    let wrong = falling (record { id = id; started = started; ended = ended })
    (subst (λ l. Id l id) c.cut.ensures.front c.in_ok-id.ensures)
    (subst (λ l. Number largest_register l started) (started_is at) c.in_ok-started.ensures)
    (subst (λ l. Number largest_register l ended) (ended_is at) c.in_ok-ended.ensures)
    c.if-ended-started.true in
    record { place = ended_at at; why = wrong }
