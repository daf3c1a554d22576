use Rattle.std.proofs.Common.{◌≡◌, ◌++◌, ◌≤◌, map, take, length}
use Rattle.prog_map.specs.Tables.{owner_mode}
use Rattle.prog_map.proofs.busy.push_edge_pairs.Given as goal

abbrev pub invariant-loop-number : goal.invariant-loop-number
invariant-loop-number l = (l.number ≤ length l.graph.edges) × (l.pairs.items ≡ l.initial.pairs.items ++ map owner_mode (take l.number l.graph.edges))
