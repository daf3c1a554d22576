use Rattle.std.proofs.Common.{take}
use Rattle.rr_wires.proofs.OwnedPairs.{AreOwnedSoFar}
use Rattle.rr_wires.proofs.owned.owned_edges.Given as goal

abbrev pub invariant-loop-place : goal.invariant-loop-place
invariant-loop-place l = AreOwnedSoFar l.numbers.nodes (take l.place l.edges) l.pairs.keys l.owned.items
