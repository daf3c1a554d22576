use Rattle.rr_nodes.proofs.OneReading.{one_list, one_refusal, never_both}
use Rattle.rr_nodes.proofs.laws.one_reading.Goals as goal

pub returns-clause-nodes : goal.returns-clause-nodes
returns-clause-nodes c = λ pin_of es ns ms p q. one_list pin_of c.one_item.ensures.node es ns ms p q

pub returns-clause-refusal : goal.returns-clause-refusal
returns-clause-refusal c = λ pin_of es d e p q. one_refusal pin_of c.one_item.ensures.node es d e p q

pub returns-clause-never_both : goal.returns-clause-never_both
returns-clause-never_both c = λ pin_of es ns e p r. never_both pin_of c.one_item.ensures.node es ns e p r
