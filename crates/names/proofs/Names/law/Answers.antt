use Rattle.std.proofs.Common.{string_bytes}
use Rattle.names.proofs.TextKeys.{names_once}
use Rattle.names.proofs.Names.law.Goals as goal

pub returns-clause-once : goal.returns-clause-once
returns-clause-once c = rw (← c.self.view_is) (names_once string_bytes c.self.inside.names.keys c.len.ensures.unique)
