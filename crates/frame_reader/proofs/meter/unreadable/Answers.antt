use Rattle.std.proofs.Common.{refl}
use Rattle.frame_reader.proofs.meter.unreadable.Goals as goal

pub returns : goal.returns
returns c = record { through = λ tree behind b. (refl, (c.cut.ensures.through tree behind b).1); bound = c.cut.ensures.bound }
