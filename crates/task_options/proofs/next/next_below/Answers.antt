use Rattle.std.proofs.Common.{arith}
use Rattle.task_options.proofs.Nexts.{next_number, no_number}
use Rattle.task_options.proofs.next.next_below.Goals as goal

pub returns-then-last-limit : goal.returns-then-last-limit
returns-then-last-limit c = next_number c.args.limit c.args.last (omega arith)

pub returns : goal.returns
returns c = no_number c.args.limit c.args.last (omega arith)
