use Rattle.ids.proofs.Leads.{all_digits}
use Rattle.ids.proofs.message.take_last.Goals as goal

pub returns-then-text : goal.returns-then-text
returns-then-text g c = λ n d. c.if-text.true (all_digits _ _ n c.requires d).0
