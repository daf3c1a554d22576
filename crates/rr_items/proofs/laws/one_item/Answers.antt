use Rattle.rr_items.proofs.OneItem.{one_ends, one_place, one_node, one_switch}
use Rattle.rr_items.proofs.laws.one_item.Goals as goal

pub returns-clause-ends : goal.returns-clause-ends
returns-clause-ends c = one_ends

pub returns-clause-place : goal.returns-clause-place
returns-clause-place c = one_place

pub returns-clause-node : goal.returns-clause-node
returns-clause-node c = one_node

pub returns-clause-switch : goal.returns-clause-switch
returns-clause-switch c = one_switch
