use Rattle.std.proofs.Common.{None, Some, arith}
use Rattle.vtr_base.specs.Lists.{up_from}
use Rattle.task_options.proofs.Nexts.{after_none, after_some, up_first, up_none}
use Rattle.std.proofs.Common.{sym}
use Rattle.task_options.proofs.next.next_net.Goals as goal

pub returns-in-Some : goal.returns-in-Some
returns-in-Some c = after_some (up_from 0 c.args.nets) c.args.last c.in-Some.net c.next_below.result c.in-Some.is c.next_below.ensures

pub returns-in-None : goal.returns-in-None
returns-in-None c = after_none (up_from 0 c.args.nets) c.args.last (Some 0) c.in-None.is (sym (up_first 0 c.args.nets (omega arith)))

pub returns-in-None-2 : goal.returns-in-None-2
returns-in-None-2 c = after_none (up_from 0 c.args.nets) c.args.last None c.in-None-2.is (sym (up_none 0 c.args.nets (omega arith)))
