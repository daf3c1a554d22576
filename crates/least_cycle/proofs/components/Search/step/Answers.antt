use Rattle.std.proofs.Common.{◌≡◌, ◌<◌, ◌∙◌, ◌-◌, ℕ, length, take, ap, arith}
use Rattle.least_cycle.specs.declared.components.Place.TheVariants.{Unseen, Open, Closed}
use Rattle.least_cycle.proofs.Leaving.{pop_is, next_there, next_within, next_reached, place_read}
use Rattle.least_cycle.proofs.components.Search.step.Goals as goal

pub index-requires : goal.index-requires
index-requires c =
    let m = c.self.inside in
    let search = rw (← c.self.view_is) at c.requires.search in
    let last = rw (← c.self.view_is) at c.requires.last in
    let size : c.len-2.result ≡ length m.ahead.items = omega (arith, c.len-2.ensures, m.ahead.ok) in
    let more : c.args.component.ahead < c.len-2.result = omega (arith, c.len-2.ensures, c.len.ensures, c.if-len-component.false) in
    let next = next_there _ c.args.component last c.index-node.result.now c.len-2.result size more c.index-node.ensures in
    let within = next_within c.args.nexts.now _ search c.requires.nodes c.args.component c.index-node.result.now next in
    omega (arith, within, m.places.ok)

pub enter-requires-clause-unseen : goal.enter-requires-clause-unseen
enter-requires-clause-unseen c =
    let m = c.self.inside in
    let search = rw (← c.self.view_is) at c.requires.search in
    let last = rw (← c.self.view_is) at c.requires.last in
    let size : c.len-2.result ≡ length m.ahead.items = omega (arith, c.len-2.ensures, m.ahead.ok) in
    let more : c.args.component.ahead < c.len-2.result = omega (arith, c.len-2.ensures, c.len.ensures, c.if-len-component.false) in
    let next = next_there _ c.args.component last c.index-node.result.now c.len-2.result size more c.index-node.ensures in
    let within = next_within c.args.nexts.now _ search c.requires.nodes c.args.component c.index-node.result.now next in
    rw (← c.self.view_is) (place_read m.places.items c.index-node.result.now Unseen c.index.result.now within c.index.ensures c.in-Unseen.is)

pub enter-requires-clause-reached : goal.enter-requires-clause-reached
enter-requires-clause-reached c =
    let m = c.self.inside in
    let search = rw (← c.self.view_is) at c.requires.search in
    let last = rw (← c.self.view_is) at c.requires.last in
    let size : c.len-2.result ≡ length m.ahead.items = omega (arith, c.len-2.ensures, m.ahead.ok) in
    let more : c.args.component.ahead < c.len-2.result = omega (arith, c.len-2.ensures, c.len.ensures, c.if-len-component.false) in
    let next = next_there _ c.args.component last c.index-node.result.now c.len-2.result size more c.index-node.ensures in
    rw (← c.self.view_is) (next_reached c.args.nexts.now _ search c.args.component c.index-node.result.now next)

pub returns-in-Open : goal.returns-in-Open
returns-in-Open c =
    let m = c.self.inside in
    let search = rw (← c.self.view_is) at c.requires.search in
    let last = rw (← c.self.view_is) at c.requires.last in
    let size : c.len-2.result ≡ length m.ahead.items = omega (arith, c.len-2.ensures, m.ahead.ok) in
    let more : c.args.component.ahead < c.len-2.result = omega (arith, c.len-2.ensures, c.len.ensures, c.if-len-component.false) in
    let next = next_there _ c.args.component last c.index-node.result.now c.len-2.result size more c.index-node.ensures in
    let within = next_within c.args.nexts.now _ search c.requires.nodes c.args.component c.index-node.result.now next in
    let here = (place_read m.places.items c.index-node.result.now (Open c.in-Open.at) c.index.result.now within c.index.ensures c.in-Open.is) in
    c.merge.ensures c.args.nexts.now c.args.component c.index-node.result.now c.requires.search (rw (← c.self.view_is) next) (rw (← c.self.view_is) here)

pub returns-in-Closed : goal.returns-in-Closed
returns-in-Closed c =
    let m = c.self.inside in
    let search = rw (← c.self.view_is) at c.requires.search in
    let last = rw (← c.self.view_is) at c.requires.last in
    let size : c.len-2.result ≡ length m.ahead.items = omega (arith, c.len-2.ensures, m.ahead.ok) in
    let more : c.args.component.ahead < c.len-2.result = omega (arith, c.len-2.ensures, c.len.ensures, c.if-len-component.false) in
    let next = next_there _ c.args.component last c.index-node.result.now c.len-2.result size more c.index-node.ensures in
    let within = next_within c.args.nexts.now _ search c.requires.nodes c.args.component c.index-node.result.now next in
    let closed = place_read m.places.items c.index-node.result.now (Closed c.in-Closed.field-0) c.index.result.now within c.index.ensures c.in-Closed.is in
    let here : m.ahead.len - 1 ≡ length m.ahead.items - 1 = omega (arith, m.ahead.ok) in
    rw (← c.self.view_is)
    (pop_is c.args.nexts.now _ search c.args.component c.index-node.result.now c.in-Closed.field-0 closed next c.pop.new.self.items (c.pop.ensures.rest ∙ ap (λ (n : ℕ). take n m.ahead.items) here))
