use Rattle.first_try.proofs.routes.edge_from.Given as goal

abbrev pub invariant-loop-edge : goal.invariant-loop-edge
invariant-loop-edge l = Unit {0}
