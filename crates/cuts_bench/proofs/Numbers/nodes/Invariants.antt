-- Nodes so far, no more than were asked for.
use Rattle.std.proofs.Common.{◌<◌, ◌≤◌, ◌-◌, vec_len}
use Rattle.std.specs.List.{All}
use Rattle.cuts_bench.proofs.Numbers.nodes.Given as goal

abbrev pub invariant-numbers : goal.invariant-numbers
invariant-numbers l = record {
  within : All (λ node. node < l.nodes) l.list.items;
  few : vec_len l.list ≤ l.count;
}

abbrev pub decreases-numbers : goal.decreases-numbers
decreases-numbers l = l.count - vec_len l.list
