use Rattle.std.proofs.Common.{map, take}
use Rattle.rr_edges.specs.FileEdges.{SaysEdges}
use Rattle.rr_edges.proofs.read.read_edges.Given as goal

abbrev pub invariant-loop-index : goal.invariant-loop-index
invariant-loop-index g l = SaysEdges (g.T.EndTable.known l.table) (take l.index (map (λ k. k.now) l.edge-items)) l.kept.items
