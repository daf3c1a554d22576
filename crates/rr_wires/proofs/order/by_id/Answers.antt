use Rattle.std.proofs.Common.{rules}
use Rattle.std.proofs.lemmas.List.Sorted.{IsNonDecreasingBy-from_sort_by_key}
use Rattle.rr_wires.proofs.Orders.{moved_same, sorted_ascend}
use Rattle.rr_wires.proofs.order.by_id.Goals as goal

pub returns-clause-same : goal.returns-clause-same
returns-clause-same c = moved_same _ _ _ c.in_ok-sorted.ensures.items c.sort_unstable_by_key.ensures.permutation

pub returns-clause-ascending : goal.returns-clause-ascending
returns-clause-ascending c =
    sorted_ascend (λ n. n.id) c.args.nodes.now c.in_ok-sorted.sorted.items c.sort_unstable_by_key.new.self.items c.requires c.in_ok-sorted.ensures.items c.sort_unstable_by_key.ensures.permutation
    (IsNonDecreasingBy-from_sort_by_key (λ n. n.id) _ c.sort_unstable_by_key.ensures.sorted (λ a r q k. search rules))
