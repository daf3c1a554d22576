use Rattle.task_law.proofs.OneNet.{has_one_net}
use Rattle.task_law.proofs.nets.one_net_law.Goals as goal

pub returns : goal.returns
returns c = has_one_net c.args.net.now c.law.ensures
