use Rattle.run_inputs.proofs.Graphs.{graphs_are, first_unexpanded}
use Rattle.run_inputs.proofs.architecture.graphs_of.Goals as goal

pub returns-in-Ok-clause-graphs : goal.returns-in-Ok-clause-graphs
returns-in-Ok-clause-graphs c = graphs_are c.args.architecture.now c.in-Ok.graphs.items c.in-Ok.ensures.graphs

pub returns-in-Err-clause-stopped : goal.returns-in-Err-clause-stopped
returns-in-Err-clause-stopped c = first_unexpanded c.args.architecture.now c.args.file.now c.in-Err.refused c.refused_by.result c.in-Err.ensures.refused c.refused_by.ensures
