use Rattle.std.proofs.Common.{refl, inr}
use Rattle.vtr_top.proofs.Said.{answered_by, answered_memory}
use Rattle.vtr_top.proofs.Completed.{put_of_done}
use Rattle.vtr_top.proofs.command.run.Goals as goal

pub returns-in-Err-clause-answers : goal.returns-in-Err-clause-answers
returns-in-Err-clause-answers g c = answered_memory _ _ _ _ _ c.memory_line.ensures c.print-in-Err.ensures.puts

pub returns-in-Ok-clause-answers : goal.returns-in-Ok-clause-answers
returns-in-Ok-clause-answers g c = answered_by _ _ _ _ _ _ _ c.as_slice.ensures.value c.in-Ok.ensures.says c.print.ensures.puts

pub returns-in-Ok-clause-complete : goal.returns-in-Ok-clause-complete
returns-in-Ok-clause-complete g c valid = put_of_done _ _ _ _ _ (c.in-Ok.ensures.complete valid) c.print.ensures.puts

pub returns-in-Err-clause-complete : goal.returns-in-Err-clause-complete
returns-in-Err-clause-complete g c valid = put_of_done _ _ _ _ _ (inr refl) c.print-in-Err.ensures.puts
