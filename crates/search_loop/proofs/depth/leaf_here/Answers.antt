use Rattle.search_loop.proofs.Paths.{enters_at_root}
use Rattle.search_loop.proofs.depth.leaf_here.Goals as goal

pub close-requires-clause-root : goal.close-requires-clause-root
close-requires-clause-root g c = enters_at_root c.args.graph.now c.args.task.now c.args.trail.now.made c.requires.path
