use Rattle.std.proofs.Common.{◌≡◌, ◌∙◌, ◌-◌, ℕ, length, take, ap, arith}
use Rattle.least_cycle.proofs.Leaving.{merge_is}
use Rattle.least_cycle.proofs.components.Search.merge.Goals as goal

pub returns : goal.returns
returns c =
    let m = c.self.inside in
    let size : m.ahead.len - 1 ≡ length m.ahead.items - 1 = omega (arith, m.ahead.ok) in
    rw (← c.self.view_is)
    (merge_is (record { path = m.path.items; ahead = m.ahead.items; components = m.components.items; places = m.places.items; low = m.low }) c.args.at c.components_by-count.result
    (rw c.as_slice.ensures.value at c.components_by-count.ensures) c.pop.new.self.items c.truncate.new.self.items
    (c.pop.ensures.rest ∙ ap (λ (n : ℕ). take n m.ahead.items) size) c.truncate.ensures.items)
