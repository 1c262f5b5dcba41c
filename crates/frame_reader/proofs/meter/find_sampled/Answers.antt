use Rattle.frame_reader.proofs.Onlys.{sampled_finds}
use Rattle.frame_reader.proofs.meter.find_sampled.Goals as goal

pub returns : goal.returns
returns c = record {
  through = λ tree behind b. let found = c.find_only.ensures.through tree behind b in (sampled_finds tree _ found.0, found.1);
  bound = c.find_only.ensures.bound;
}
