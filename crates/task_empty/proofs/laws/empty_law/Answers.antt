use Rattle.task_empty.proofs.Nothing.{realised, unrealised}
use Rattle.task_empty.proofs.laws.empty_law.Goals as goal

pub returns-clause-empty : goal.returns-clause-empty
returns-clause-empty c g n t valid none = realised g n t valid none

pub returns-clause-some : goal.returns-clause-some
returns-clause-some c g n t r some empty realises = unrealised g n t r some empty realises
