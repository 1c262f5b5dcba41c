use Rattle.std.proofs.Common.{arith}
use Rattle.frame_reader.proofs.Fronts.{ends_here, goes_on}
use Rattle.frame_reader.proofs.Onlys.{none_only, not_only, only_none, only_some, the_only}
use Rattle.frame_reader.proofs.meter.find_only.Goals as goal

pub returns-in_default : goal.returns-in_default
returns-in_default g c = record {
  through = λ tree behind b.
      let u = c.unreadable.ensures.through tree behind b in
      (only_none g.C.FindsSample.finds tree _ (none_only tree (c.in_default.ensures.opened tree behind b)) u.0, u.1);
  bound = c.unreadable.ensures.bound;
}

pub returns-in-Some-after : goal.returns-in-Some-after
returns-in-Some-after g c = record {
  through = λ tree behind b.
      let first = c.in-Some.ensures.opened tree behind b in
      let start = c.start-found.result in
      let walk = c.collect-behind.ensures.through start first.members first.behind first.opened (c.start-found.ensures first.members) in
      let end = ends_here first.others _ first.behind behind _ walk.1 c.in-Some-after.ensures.found first.more in
      (only_some g.C.FindsSample.finds tree _ first.members (the_only tree first.members first.others first.is end.0) (c.finish.ensures start first.members walk.0), end.1);
  bound = omega (arith, c.in-Some.ensures.shorter, c.collect-behind.ensures.bound, c.in-Some-after.ensures.shorter);
}

pub returns-in-None : goal.returns-in-None
returns-in-None g c = record {
  through = λ tree behind b.
      let first = c.in-Some.ensures.opened tree behind b in
      let start = c.start-found.result in
      let walk = c.collect-behind.ensures.through start first.members first.behind first.opened (c.start-found.ensures first.members) in
      let none = not_only tree _ first.others first.is (goes_on first.others _ first.behind behind walk.1 c.in-None.ensures.found first.more) in
      let u = c.unreadable-in-None.ensures.through tree behind b in (only_none g.C.FindsSample.finds tree _ none u.0, u.1);
  bound = c.unreadable-in-None.ensures.bound;
}
