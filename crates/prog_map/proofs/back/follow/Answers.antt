use Rattle.prog_map.proofs.Through.{either_step}
use Rattle.prog_map.proofs.back.follow.Goals as goal

pub returns-clause-exact : goal.returns-clause-exact
returns-clause-exact c = either_step _ _ _ c.in_default.ensures.exact _ c.step_through.ensures.exact
