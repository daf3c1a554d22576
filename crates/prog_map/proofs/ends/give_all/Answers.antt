use Rattle.std.proofs.Common.{refl}
use Rattle.prog_map.proofs.Turning.{gets_next}
use Rattle.prog_map.proofs.ends.give_all.Goals as goal

pub loop-node-preserved : goal.loop-node-preserved
loop-node-preserved c =
    gets_next c.args.last.now c.loop-node.last c.args.end c.args.nodes.now c.loop-node.node-index _ c.loop-node-test.true
    refl (c.requires c.loop-node.node-index 0 c.loop-node-test.true) c.loop-node.invariant
