use Rattle.std.specs.Prelude.{◌≡◌, [], take}
use Rattle.arch_types.specs.declared.block.Side.TheVariants.{Input}
use Rattle.arch_types.specs.Blocks.{ports_on}
use Rattle.task_types.proofs.wires.first_width.Given as goal

abbrev pub invariant-loop-port : goal.invariant-loop-port
invariant-loop-port l = ports_on Input (take l.port-index l.ports) ≡ []
