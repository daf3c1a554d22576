use Rattle.task_there.proofs.There.{task_there}
use Rattle.task_there.proofs.laws.there_law.Goals as goal

pub returns : goal.returns
returns c g t valid =
    task_there _ g _ t c.law.ensures.nets.few c.law.ensures.within (c.valid_law.ensures.nets g _ t valid) (c.valid_law.ensures.homes g _ t valid) valid
