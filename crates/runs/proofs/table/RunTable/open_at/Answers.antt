use Rattle.std.proofs.Common.{◌+◌, ◌-◌, take, set, ◌∙◌, arith, length-set}
use borrow.Rule.Slice.PartMut.{put_mid, same_len_mid}
use Rattle.runs.proofs.Tables.{opened_table}
use Rattle.runs.specs.Stretches.{Stretches, covers, with_number}
use Rattle.runs.proofs.table.RunTable.open_at.Goals as goal
use Rattle.runs.proofs.table.RunTable.open_at.Goals.{After-open}

opened : (c : After-open) → Stretches (with_number (covers (take c.args.self.now.count c.args.self.now.runs)) c.args.number) (take (c.args.self.now.count + 1) (set (put_mid c.args.place (c.args.self.now.count + 1 - c.args.place) c.args.self.now.runs c.rotate_right.new.self) c.args.place c.open.new.self))
opened c =
    opened_table c.args.self.now.runs c.args.self.now.count c.args.place c.args.number c.args.self.now.rising c.rotate_right.new.self c.open.new.self
    (omega arith) c.requires.apart c.rotate_right.ensures.len c.rotate_right.ensures.by_index.1 c.open.ensures

pub invariant_of-self : goal.invariant_of-self
invariant_of-self c = record { fits = (omega arith, simp length-set (same_len_mid _ _ c.args.self.now.runs _ c.rotate_right.ensures.len ∙ c.args.self.now.fits.1)); rising = (opened c).rising }

pub returns : goal.returns
returns c = opened (goal.at.returns c).After-open
