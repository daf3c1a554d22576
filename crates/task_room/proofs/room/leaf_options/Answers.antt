use Rattle.task_room.proofs.Counts.{leaf_choices}
use Rattle.std.proofs.Common.{arith}
use Rattle.task_room.proofs.room.leaf_options.Goals as goal

pub returns : goal.returns
returns c = omega (arith, leaf_choices c.args.graph.now c.args.task.now c.args.leaf, c.atoms_held.ensures, c.wires_at.ensures.wires)
