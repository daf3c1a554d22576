use Rattle.std.proofs.Common.{rules}
use Rattle.prog_map.proofs.Maps.{none_is_prog}
use Rattle.prog_map.proofs.prog.Prog.empty.Goals as goal

pub returns-clause-of : goal.returns-clause-of
returns-clause-of c = none_is_prog _ _ (search rules)
