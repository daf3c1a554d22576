-- The sum over the nets that were passed.
use Rattle.std.proofs.Common.{◌≡◌, ◌≤◌, ◌*◌, ◌^◌, ℕ, [], take, get_or, map}
use Rattle.std.specs.List.{sum_by}
use Rattle.std.specs.Vec.{vec_items}
use Rattle.anneal_placer.specs.Cost.{net_cost}
use Rattle.anneal_placer.specs.Task.{nets_of}
use Rattle.anneal_placer.proofs.indexed.BlockNets.cost_at.Given as goal

abbrev pub invariant-loop-net : goal.invariant-loop-net
invariant-loop-net l = record {
  is : l.sum ≡ sum_by (λ (n : ℕ). net_cost l.task.sites.items l.places (get_or (nets_of l.task) n [])) (take l.net-index (get_or (map vec_items l.self.of.items) l.block []));
  small : l.sum ≤ l.net-index * 2 ^ 33;
}
