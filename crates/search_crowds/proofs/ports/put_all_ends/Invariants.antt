use Rattle.search_crowds.specs.Webs.{EndsOne}
use Rattle.task_reach.specs.Gains.{FromItem}
use Rattle.search_crowds.proofs.Growing.{IsGrown}
use Rattle.search_crowds.proofs.ports.put_all_ends.Given as goal

abbrev pub invariant-loop-number : goal.invariant-loop-number
invariant-loop-number l = IsGrown l.fn.reached l.reached (FromItem l.needs (EndsOne l.graph l.net.atoms l.task l.trail.made)) l.number-index
