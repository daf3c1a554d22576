use Rattle.std.specs.Prelude.{◌≡◌, length}
use Rattle.task_trail.specs.Decided.{decided_on}
use Rattle.search_loop.proofs.Ends.{IsSearching}
use Rattle.search_loop.proofs.Measure.{left}
use Rattle.search_loop.proofs.depth.search.Given as goal

abbrev pub invariant-loop-tree : goal.invariant-loop-tree
invariant-loop-tree g l =
    IsSearching l.graph l.net.atoms l.task l.nodes l.tree l.trail.made l.branches
    × (l.trail ≡ decided_on l.trail.made (length l.graph.instances) (length l.graph.pins) (length l.task.atoms))
    × g.G.Guide.is_fit l.guide l.graph l.task

abbrev pub decreases-loop-tree : goal.decreases-loop-tree
decreases-loop-tree g l = left l.graph l.task l.nodes l.branches l.tree
