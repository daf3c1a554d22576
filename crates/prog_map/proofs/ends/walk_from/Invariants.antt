use Rattle.prog_map.specs.Ends.{IsWalked}
use Rattle.prog_map.proofs.Walking.{unmet_count}
use Rattle.prog_map.proofs.ends.walk_from.Given as goal

abbrev pub invariant-loop-next : goal.invariant-loop-next
invariant-loop-next l = IsWalked l.steps l.fn.met l.met l.fn.start l.end l.nodes.items

abbrev pub decreases-loop-next : goal.decreases-loop-next
decreases-loop-next l = unmet_count l.met
