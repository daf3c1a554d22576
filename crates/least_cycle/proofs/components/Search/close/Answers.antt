use Rattle.std.proofs.Common.{◌≡◌, ◌∙◌, ◌-◌, ℕ, length, take, ap, arith}
use Rattle.std.proofs.lemmas.List.{take_rest}
use Rattle.least_cycle.proofs.Closing.{close_is, component_seen}
use Rattle.least_cycle.proofs.Lists.{whole}
use Rattle.least_cycle.proofs.components.Search.close.Goals as goal

pub mark-requires : goal.mark-requires
mark-requires c =
    let m = c.self.inside in
    let some = rw (← c.self.view_is) at c.requires.search in
    rw (c.deref.ensures.value, c.deref_mut.ensures.value, take_rest m.path.items c.args.component.path) (component_seen some.0 _ some.1 c.args.component.path)

pub returns : goal.returns
returns c =
    let m = c.self.inside in
    let marks = rw (take_rest m.path.items c.args.component.path) at (rw (c.deref.ensures.value, c.deref_mut.ensures.value) at c.mark.ensures) in
    let size : length c.mark.new.places ≡ m.places.len = omega (arith, c.mark.auto.places, c.deref_mut.ensures.len, m.places.ok) in
    let there : length m.places.items ≡ m.places.len = omega (arith, m.places.ok) in
    let places = whole m.places.len c.mark.new.places m.places.items size there in
    let last : m.components.len - 1 ≡ length m.components.items - 1 = omega (arith, m.components.ok) in
    rw (← c.self.view_is, places)
    (close_is (record { path = m.path.items; ahead = m.ahead.items; components = m.components.items; places = m.places.items; low = m.low }) (rw (← c.self.view_is) at c.requires.search)
    c.args.component (rw (← c.self.view_is) at c.requires.last) (rw (← c.self.view_is) at c.requires.nothing)
    c.truncate.new.self.items c.pop.new.self.items c.mark.new.places marks c.truncate.ensures.items
    (c.pop.ensures.rest ∙ ap (λ (n : ℕ). take n m.components.items) last))
