use Rattle.std.specs.Prelude.{◌≡◌, length}
use Rattle.task_trail.specs.Decided.{decided_on}
use Rattle.search_loop.proofs.Ends.{IsFilling}
use Rattle.search_loop.proofs.Measure.{owed}
use Rattle.search_loop.proofs.depth.fill.Given as goal

abbrev pub invariant-loop-leaf : goal.invariant-loop-leaf
invariant-loop-leaf g l =
    IsFilling l.graph l.net.atoms l.task l.fn.tree l.tree l.trail.made
    × (l.trail ≡ decided_on l.trail.made (length l.graph.instances) (length l.graph.pins) (length l.task.atoms))
    × g.G.Guide.is_fit l.guide l.graph l.task

abbrev pub decreases-loop-leaf : goal.decreases-loop-leaf
decreases-loop-leaf g l = owed l.graph l.task l.tree
