use Rattle.rr_wires.specs.declared.types.End.TheVariants.{Src, Dst}
use Rattle.rr_wires.proofs.OneGraph.{graphs_same, lists_same}
use Rattle.rr_wires.proofs.laws.one_graph.Goals as goal

pub returns-clause-graph : goal.returns-clause-graph
returns-clause-graph c = graphs_same

pub returns-clause-into : goal.returns-clause-into
returns-clause-into c edges = lists_same edges Dst

pub returns-clause-out_of : goal.returns-clause-out_of
returns-clause-out_of c edges = lists_same edges Src
