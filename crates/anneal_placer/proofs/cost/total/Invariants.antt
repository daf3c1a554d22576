-- The sum over the nets that were passed.
use Rattle.std.proofs.Common.{◌≡◌, ◌≤◌, ◌*◌, ◌^◌, take}
use Rattle.std.specs.List.{sum_by}
use Rattle.anneal_placer.specs.Cost.{net_cost}
use Rattle.anneal_placer.specs.Task.{nets_of}
use Rattle.anneal_placer.proofs.cost.total.Given as goal

abbrev pub invariant-loop-net : goal.invariant-loop-net
invariant-loop-net l = record {
  is : l.sum ≡ sum_by (net_cost l.task.sites.items l.places) (take l.net-index (nets_of l.task));
  small : l.sum ≤ l.net-index * 2 ^ 33;
}
