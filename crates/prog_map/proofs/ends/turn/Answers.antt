use Rattle.std.proofs.Common.{refl}
use Rattle.prog_map.proofs.Turning.{turning_next, turned_all}
use Rattle.prog_map.proofs.ends.turn.Goals as goal

pub loop-node-preserved : goal.loop-node-preserved
loop-node-preserved c =
    turning_next c.args.last.now c.loop-node.last c.args.end c.loop-node.before c.args.nodes.now c.loop-node.node-index _ c.requires.once c.loop-node-test.true
    refl (c.requires.inside c.loop-node.node-index 0 c.loop-node-test.true) c.loop-node.invariant

pub returns : goal.returns
returns c = turned_all _ _ _ _ _ _ c.loop-node-test.false c.loop-node.invariant
