use Rattle.std.proofs.Common.{sym, subst, arith}
use Rattle.frame.specs.Walks.{Behind, LeftOf}
use Rattle.frame.proofs.Looks.{Within, fewer}
use Rattle.frame.proofs.walk.collect.Goals as goal

pub loop-left-preserved : goal.loop-left-preserved
loop-left-preserved g c = (
  fewer c.args.s.now _ c.loop-left.left c.next_member-left.result c.in-Continue.member c.in-Continue.is (omega (arith, c.take_name.ensures.bound, c.take.ensures.bound)) c.loop-left.invariant.0 c.next_member-left.ensures.shorter,
  λ start ms end o far.
      let h = c.loop-left.invariant.1 start ms end o far in
      let t = c.take_name.ensures.taken h.0 end (subst (LeftOf h.0 end) c.in-Continue.is h.1) in
      let v = c.take.ensures.through end start ms h.0 t h.2 in
      (t.others, c.next_member-left.ensures.left t.others end (subst (λ l. Behind t.others l end) (sym v.1) t.more), v.0),
)

pub returns-in-Break : goal.returns-in-Break
returns-in-Break g c = record {
  through = λ start ms end o far.
      let h = c.loop-left.invariant.1 start ms end o far in
      let past = subst (LeftOf h.0 end) c.in-Break.is h.1 in
      (subst (g.C.Collects.so_far start c.loop-left.found ms) past.0 h.2, past.1);
  bound = subst (Within c.args.s.now) c.in-Break.is c.loop-left.invariant.0;
}
