use Rattle.std.proofs.Common.{◌<◌, ℕ, List, sym, subst}
use Rattle.list_laws.specs.Orders.{Ordered}
use Rattle.number_places.proofs.Sorted.{ascends_on}
use Rattle.number_places.proofs.numbers.Numbers.ascending.Goals as goal

pub loop-number-preserved : goal.loop-number-preserved
loop-number-preserved c =
    ascends_on c.deref-number-items.result.now c.add.new.self c.loop-number.number-index _ c.in_ok-add.field-0 (subst (λ (l : List ℕ). Ordered ◌<◌ l) (sym c.deref-number-items.ensures.value) c.in_ok-sorted.ensures.order) c.loop-number-test.true
    (rw c.loop-number.invariant at c.in_ok-add.ensures.ok)
