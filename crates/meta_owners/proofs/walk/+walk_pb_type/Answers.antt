use Rattle.std.proofs.Common.{arith}
use Rattle.std.proofs.lemmas.Grind.{common_steps}
use Rattle.meta_owners.proofs.Rows.{mode_steps_is, kind_steps_are}
use Rattle.meta_owners.proofs.walk.+walk_pb_type.Goals as goal

pub loop-mode-preserved : goal.loop-mode-preserved
loop-mode-preserved t c = grind (arith, common_steps, mode_steps_is c.mode-item.result)

pub returns-in_ok-push-in-Modes-2 : goal.returns-in_ok-push-in-Modes-2
returns-in_ok-push-in-Modes-2 t c = grind (arith, common_steps, kind_steps_are c.args.block.now.kind c.in-Modes.modes c.in-Modes.is)
