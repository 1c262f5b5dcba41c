use Rattle.std.proofs.Common.{refl}
use Rattle.frame_reader.specs.Frame.{measurand_text}
use Rattle.frame_reader.proofs.reading.is_register.Goals as goal

pub returns : goal.returns
returns c = λ tree v. c.is_string.ensures tree measurand_text v refl
