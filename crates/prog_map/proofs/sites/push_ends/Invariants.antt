use Rattle.std.proofs.Common.{◌≡◌, ◌++◌, map, take}
use Rattle.prog_map.specs.Order.{end_site}
use Rattle.prog_map.proofs.sites.push_ends.Given as goal

abbrev pub invariant-loop-edge : goal.invariant-loop-edge
invariant-loop-edge l = l.sites ≡ l.initial.sites ++ map (end_site l.graph l.mode) (take l.edge-index l.edges)
