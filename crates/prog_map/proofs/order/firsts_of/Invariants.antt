use Rattle.std.proofs.Common.{◌≡◌, ◌≤◌, ℕ, length, take}
use Rattle.prog_map.specs.Groups.{grouped, places_from}
use Rattle.prog_map.specs.Order.{opens}
use Rattle.prog_map.proofs.order.firsts_of.Given as goal

abbrev pub invariant-loop-edge : goal.invariant-loop-edge
invariant-loop-edge l =
    (l.edge ≤ length l.graph.edges)
    × ((pb mode : ℕ) → grouped l.groups.numbers pb mode ≡ places_from (opens l.graph pb mode) 0 (take l.edge l.graph.edges))
