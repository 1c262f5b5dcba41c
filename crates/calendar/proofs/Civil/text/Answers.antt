use Rattle.calendar.proofs.Texts.{text_written}
use Rattle.calendar.proofs.Civil.text.Goals as goal

pub returns : goal.returns
returns c =
    text_written c.args.self.now _ _ _ _ _ _
    (rw c.from.ensures at c.write_at.ensures)
    (rw c.from-2.ensures at c.write_at-2.ensures)
    (rw c.from-3.ensures at c.write_at-3.ensures)
    (rw c.from-4.ensures at c.write_at-4.ensures)
    (rw c.from-5.ensures at c.write_at-5.ensures)
    (rw c.from-6.ensures at c.write_at-6.ensures)
