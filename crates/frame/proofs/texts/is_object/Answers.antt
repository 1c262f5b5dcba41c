use Rattle.std.proofs.Common.{arith}
use Rattle.frame.proofs.Scalars.{object_by_first}
use Rattle.frame.proofs.texts.is_object.Goals as goal

pub returns-in-123 : goal.returns-in-123
returns-in-123 c = λ tree v-is. object_by_first tree c.args.value.now v-is (omega arith)
