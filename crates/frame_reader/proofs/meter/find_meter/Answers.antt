use Rattle.frame_reader.proofs.Onlys.{meter_finds}
use Rattle.frame_reader.proofs.meter.find_meter.Goals as goal

pub returns : goal.returns
returns c = record {
  through = λ tree behind b. let found = c.find_only.ensures.through tree behind b in (meter_finds tree _ found.0, found.1);
  bound = c.find_only.ensures.bound;
}
