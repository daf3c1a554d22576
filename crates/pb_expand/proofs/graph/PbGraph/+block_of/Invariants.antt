use Rattle.pb_expand.proofs.graph.PbGraph.+block_of.Given as goal

abbrev pub decreases-block_of : goal.decreases-block_of
decreases-block_of l = l.pb.0
