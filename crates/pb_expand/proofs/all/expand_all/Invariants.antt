use Rattle.pb_expand.proofs.AllGraphs.{AreMade}
use Rattle.pb_expand.proofs.all.expand_all.Given as goal

abbrev pub invariant-loop-block : goal.invariant-loop-block
invariant-loop-block l = AreMade l.arch.blocks l.block l.graphs.items
