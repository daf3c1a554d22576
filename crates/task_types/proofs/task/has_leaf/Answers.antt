use Rattle.std.proofs.Common.{sym, arith}
use Rattle.task_types.proofs.Leaves.{no_leaf}
use Rattle.task_types.proofs.task.has_leaf.Goals as goal

pub returns : goal.returns
returns c = sym (no_leaf c.args.leaves.now c.args.leaf.0 c.loop-low.low c.loop-low.high c.loop-low.invariant (omega (arith, c.loop-low-test.false)))
