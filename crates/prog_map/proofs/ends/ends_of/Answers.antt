use Rattle.prog_map.proofs.Walking.{all_ended}
use Rattle.prog_map.proofs.ends.ends_of.Goals as goal

pub returns-clause-last : goal.returns-clause-last
returns-clause-last c = all_ended _ _ _ _ c.loop-start.invariant.0 c.loop-start.invariant.1 c.loop-start-test.false
