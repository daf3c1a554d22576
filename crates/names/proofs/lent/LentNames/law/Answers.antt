use Rattle.names.proofs.TextKeys.{names_once}
use Rattle.names.proofs.lent.LentNames.law.Goals as goal

pub returns-clause-once : goal.returns-clause-once
returns-clause-once c = rw (← c.self.view_is) (names_once (λ name. name.now) c.self.inside.names.keys c.len.ensures.unique)
