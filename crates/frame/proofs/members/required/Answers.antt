use Rattle.frame.proofs.Looks.{required_bytes}
use Rattle.frame.proofs.members.required.Goals as goal

pub returns : goal.returns
returns c = λ called ms e v. required_bytes called ms _ _ c.required.ensures (c.find_member.ensures called ms e v)
