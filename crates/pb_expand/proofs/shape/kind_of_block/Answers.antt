use Rattle.std.proofs.Common.{length, ap, arith}
use Rattle.pb_expand.proofs.Blocks.{modes_are}
use Rattle.pb_expand.proofs.shape.kind_of_block.Goals as goal

pub overflow_cast-result : goal.overflow_cast-result
overflow_cast-result c = omega (arith, ap length (modes_are c.args.block.now.kind c.in-Modes.modes c.in-Modes.is), c.requires)
