use Rattle.net_faults.proofs.Facing.{one_fault_is}
use Rattle.net_faults.proofs.laws.one_fault.Goals as goal

pub returns : goal.returns
returns c = one_fault_is c.never_both.ensures c.one_least_cycle.ensures
