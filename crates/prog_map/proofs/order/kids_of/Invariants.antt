use Rattle.std.proofs.Common.{◌≡◌, ◌<◌, ◌≤◌, ℕ, length, take}
use Rattle.prog_map.specs.Groups.{grouped, places_from}
use Rattle.prog_map.specs.Order.{hangs, HasParent}
use Rattle.prog_map.proofs.order.kids_of.Given as goal

abbrev pub invariant-loop-pb : goal.invariant-loop-pb
invariant-loop-pb l =
    (l.pb ≤ length l.graph.instances)
    × ((pb mode : ℕ) → grouped l.groups.numbers pb mode ≡ places_from (λ n address. hangs l.graph pb mode address) 0 (take l.pb l.graph.instances))
    × ((pb : ℕ) → pb < l.pb → HasParent l.graph pb)
