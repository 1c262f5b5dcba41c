use Rattle.std.proofs.Common.{sym, subst, MatchOption}
use Rattle.frame_reader.specs.Values.{NoTime, TimeIn}
use Rattle.frame_reader.proofs.Forms.{time_cases}
use Rattle.frame_reader.proofs.values.time.Goals as goal

pub returns : goal.returns
returns c = λ tree v.
    subst (λ o. MatchOption o (NoTime tree) (TimeIn tree)) (sym c.ok.ensures.value)
    (time_cases tree _ _ (c.in_ok-string_bytes.ensures tree v) c.read.ensures.denotes)
