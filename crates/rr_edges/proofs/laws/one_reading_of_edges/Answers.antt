use Rattle.rr_edges.proofs.AllEdges.{one_list, one_refusal, said_or_refused}
use Rattle.rr_edges.proofs.laws.one_reading_of_edges.Goals as goal

pub returns-clause-said : goal.returns-clause-said
returns-clause-said c = one_list c.one_item.ensures.ends

pub returns-clause-refused : goal.returns-clause-refused
returns-clause-refused c = one_refusal c.one_item.ensures.ends

pub returns-clause-apart : goal.returns-clause-apart
returns-clause-apart c = said_or_refused c.one_item.ensures.ends
