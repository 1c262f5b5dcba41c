use Rattle.frame.proofs.Looks.{optional_bytes}
use Rattle.frame.proofs.members.optional.Goals as goal

pub returns : goal.returns
returns c = λ called ms e v. optional_bytes called ms _ _ c.optional.ensures (c.find_member.ensures called ms e v)
