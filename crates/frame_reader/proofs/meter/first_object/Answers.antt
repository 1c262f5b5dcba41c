use Rattle.std.proofs.Common.{arith}
use Rattle.frame_reader.proofs.Fronts.{first_cases}
use Rattle.frame.proofs.Fronts.{shorter_from}
use Rattle.frame_reader.proofs.meter.first_object.Goals as goal

pub returns : goal.returns
returns c = record {
  opened = λ tree behind b. first_cases tree c.args.s.now behind _ _ b c.in_ok-first.ensures.found c.after-2.ensures.found;
  shorter = shorter_from _ _ _ (omega (arith, c.in_ok-first.ensures.shorter)) c.after-2.ensures.shorter;
}
