use Rattle.number_places.proofs.Puts.{keys_once}
use Rattle.number_places.proofs.numbers.Numbers.law.Goals as goal

pub returns-clause-once : goal.returns-clause-once
returns-clause-once c = rw (← c.self.view_is) (keys_once c.self.inside.numbers.keys c.len.ensures.unique)
