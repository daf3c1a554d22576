use Rattle.std.proofs.Common.{◌≡◌, ◌-◌, [], length}
use Rattle.sparse_set.specs.Sets.{held_on}
use Rattle.search_crowds.specs.Webs.{IsSpread}
use Rattle.search_crowds.proofs.edges.spread.Given as goal

abbrev pub invariant-loop-at : goal.invariant-loop-at
invariant-loop-at l = record {
  spread : IsSpread l.graph l.trail.made l.fn.reached.items l.reached.items l.at l.edges.items;
  room : l.reached.room ≡ length l.graph.pins;
  steps : l.steps ≡ held_on [] (length l.graph.pins);
}

abbrev pub decreases-loop-at : goal.decreases-loop-at
decreases-loop-at l = length l.graph.pins - l.at
