-- The rectangles of the nets that were passed.
use Rattle.std.proofs.Common.{◌≡◌, ◌+◌, ℕ, [], set, take, get_or, map}
use Rattle.std.specs.List.{sum_by}
use Rattle.std.specs.Vec.{vec_items}
use Rattle.anneal_placer.specs.Cost.{net_cost, site_at}
use Rattle.anneal_placer.specs.Rects.{away, without}
use Rattle.anneal_placer.specs.Task.{nets_of}
use Rattle.anneal_placer.proofs.pull.Pull.of.Given as goal

abbrev pub invariant-loop-net : goal.invariant-loop-net
invariant-loop-net l = (site : ℕ) →
    sum_by (λ (n : ℕ). net_cost l.task.sites.items (set l.places l.block site) (get_or (nets_of l.task) n [])) (take l.net-index (get_or (map vec_items l.nets.of.items) l.block [])) ≡
    sum_by (λ (n : ℕ). net_cost l.task.sites.items l.places (without l.block (get_or (nets_of l.task) n []))) (take l.net-index (get_or (map vec_items l.nets.of.items) l.block [])) +
    sum_by (away (site_at l.task.sites.items site)) l.rects.items
