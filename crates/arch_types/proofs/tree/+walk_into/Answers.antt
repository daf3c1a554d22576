use Rattle.std.proofs.Common.{arith}
use Rattle.std.proofs.lemmas.Grind.{common_steps}
use Rattle.arch_types.proofs.PreorderRows.{inside_mode_is, inside_are}
use Rattle.arch_types.proofs.tree.+walk_into.Goals as goal

pub loop-mode-preserved : goal.loop-mode-preserved
loop-mode-preserved t c = grind (arith, common_steps, inside_mode_is c.mode-item.result)

pub returns-after-loop-mode : goal.returns-after-loop-mode
returns-after-loop-mode t c = grind (arith, common_steps, inside_are c.args.block.now.kind c.in-Modes.modes c.in-Modes.is)
