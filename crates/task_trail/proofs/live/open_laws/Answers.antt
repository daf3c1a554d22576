use Rattle.std.proofs.Common.{refl}
use Rattle.task_trail.proofs.Above.{root_open, open_below}
use Rattle.task_trail.proofs.live.open_laws.Goals as goal

pub returns-clause-root : goal.returns-clause-root
returns-clause-root c modes = root_open _ modes 0 c.law.ensures refl

pub returns-clause-below : goal.returns-clause-below
returns-clause-below c modes s n to = open_below _ s n to modes c.law.ensures
