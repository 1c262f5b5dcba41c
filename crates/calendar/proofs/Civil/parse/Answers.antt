use Rattle.calendar.specs.declared.Civil.{Civil}
use Rattle.calendar.proofs.Texts.{Fields, fields_text, no_marks, no_part, no_lawful, text_from_parts}
use Rattle.calendar.proofs.Civil.parse.Goals as goal
use Rattle.calendar.proofs.Civil.parse.Goals.{After-is_lawful}

-- the civil time that was read
read : After-is_lawful → Civil
read c = record {
  year = c.in_ok-number_at.field-0;
  month = c.in_ok-number_at-2.field-0;
  day = c.in_ok-number_at-3.field-0;
  hour = c.in_ok-number_at-4.field-0;
  minute = c.in_ok-number_at-5.field-0;
  second = c.in_ok-number_at-6.field-0;
}

-- its parts stand in the text
parts : (c : After-is_lawful) → Fields c.args.text.now (read c)
unfolding read
parts c = record {
  year = c.in_ok-number_at.ensures;
  month = c.in_ok-number_at-2.ensures;
  day = c.in_ok-number_at-3.ensures;
  hour = c.in_ok-number_at-4.ensures;
  minute = c.in_ok-number_at-5.ensures;
  second = c.in_ok-number_at-6.ensures;
}

pub returns-then-not-has_marks : goal.returns-then-not-has_marks
returns-then-not-has_marks c = no_marks c.args.text.now c.if-not-has_marks.ensures

pub returns-in_err-number_at : goal.returns-in_err-number_at
returns-in_err-number_at c =
    rw c.from_residual.ensures
    (no_part c.args.text.now 0 4 (λ d. d.year) (λ d l. (fields_text d l).year) c.in_err-number_at.ensures)

pub returns-in_err-number_at-2 : goal.returns-in_err-number_at-2
returns-in_err-number_at-2 c =
    rw c.from_residual-in_err-number_at-2.ensures
    (no_part c.args.text.now 5 2 (λ d. d.month) (λ d l. (fields_text d l).month) c.in_err-number_at-2.ensures)

pub returns-in_err-number_at-3 : goal.returns-in_err-number_at-3
returns-in_err-number_at-3 c =
    rw c.from_residual-in_err-number_at-3.ensures
    (no_part c.args.text.now 8 2 (λ d. d.day) (λ d l. (fields_text d l).day) c.in_err-number_at-3.ensures)

pub returns-in_err-number_at-4 : goal.returns-in_err-number_at-4
returns-in_err-number_at-4 c =
    rw c.from_residual-in_err-number_at-4.ensures
    (no_part c.args.text.now 11 2 (λ d. d.hour) (λ d l. (fields_text d l).hour) c.in_err-number_at-4.ensures)

pub returns-in_err-number_at-5 : goal.returns-in_err-number_at-5
returns-in_err-number_at-5 c =
    rw c.from_residual-in_err-number_at-5.ensures
    (no_part c.args.text.now 14 2 (λ d. d.minute) (λ d l. (fields_text d l).minute) c.in_err-number_at-5.ensures)

pub returns-in_err-number_at-6 : goal.returns-in_err-number_at-6
returns-in_err-number_at-6 c =
    rw c.from_residual-in_err-number_at-6.ensures
    (no_part c.args.text.now 17 2 (λ d. d.second) (λ d l. (fields_text d l).second) c.in_err-number_at-6.ensures)

pub returns-then-is_lawful : goal.returns-then-is_lawful
unfolding read
returns-then-is_lawful c =
    let a = (goal.at.returns-then-is_lawful c).After-is_lawful in
    (c.if-is_lawful.ensures, text_from_parts c.args.text.now (read a) c.if-not-has_marks.ensures (parts a))

pub returns-else-is_lawful : goal.returns-else-is_lawful
unfolding read
returns-else-is_lawful c =
    let a = (goal.at.returns-else-is_lawful c).After-is_lawful in
    no_lawful c.args.text.now (read a) (parts a) c.if-is_lawful.ensures
