use Rattle.std.proofs.Common.{List, ℕ, ◌-◌, ◌^◌, subst}
use Rattle.std.proofs.lemmas.List.Filters.{dedup_is}
use Rattle.std.proofs.lemmas.Map.Keys.{IsStrictlyIncreasing-dedup}
use Rattle.list_laws.specs.Orders.{HaveSame}
use Rattle.number_places.proofs.Sorted.{increasing_ordered, same_sorted, few_sorted}
use Rattle.number_places.proofs.ascending.sorted.Goals as goal

pub returns-clause-order : goal.returns-clause-order
returns-clause-order c =
    let is = dedup_is _ _ _ c.dedup.ensures.filtered in
    rw is (increasing_ordered _ (IsStrictlyIncreasing-dedup _ c.sort_unstable.ensures.sorted))

pub returns-clause-same : goal.returns-clause-same
returns-clause-same c =
    let is = dedup_is _ _ _ c.dedup.ensures.filtered in
    subst (λ (l : List ℕ). HaveSame {X = ℕ} c.dedup.new.self.items l) c.in_ok-sorted.ensures.items (same_sorted _ _ _ c.sort_unstable.ensures.permutation is)

pub returns-clause-few : goal.returns-clause-few
returns-clause-few c =
    few_sorted c.dedup.new.self.items c.args.list.now (2 ^ 32 - 1) (returns-clause-order c) (returns-clause-same c) c.requires.low
