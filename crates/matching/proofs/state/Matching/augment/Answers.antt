use Rattle.std.proofs.Common.{◌≡◌, ◌<◌, rules, length, sym, ◌∙◌, ap, subst, arith}
use Rattle.std.specs.Prelude.{Contains}
use Rattle.matching.specs.Bipartite.{State, AddsLeft, KeepsOwners}
use Rattle.matching.proofs.Counting.{contains_at}
use Rattle.matching.proofs.Sound.{cursors_sound, owners_within, placed_sound, stuck_violator, violator_bars, whole, first_left}
use Rattle.matching.proofs.state.Matching.augment.Goals as goal

pub search-found-requires-clause-owners : goal.search-found-requires-clause-owners
search-found-requires-clause-owners c =
    rw c.deref.ensures.value (owners_within _ _ c.self.inside.place.items c.self.inside.owner.items c.self.invariant.partial)

pub invariant_of-self-in-Some-1 : goal.invariant_of-self-in-Some-1
invariant_of-self-in-Some-1 c =
    let m = c.self.inside in
    let place_size : length c.shift.new.place ≡ m.place.len = omega (arith, c.shift.auto.place, c.deref_mut-in-Some.ensures.len, m.place.ok) in
    let owner_size : length c.shift.new.owner ≡ m.owner.len = omega (arith, c.shift.auto.owner, c.deref_mut-in-Some-2.ensures.len, m.owner.ok) in
    let cursor_size : length c.search-found.new.cursor ≡ m.cursor.len = omega (arith, c.search-found.auto.cursor, c.deref_mut.ensures.len, m.cursor.ok) in
    let found_size : length c.search-found.new.seen ≡ m.seen.len = omega (arith, c.search-found.auto.seen, c.deref_mut-2.ensures.len, m.seen.ok) in
    let gone_size : length c.search-found.new.scanned ≡ m.scanned.len = omega (arith, c.search-found.auto.scanned, c.deref_mut-3.ensures.len, m.scanned.ok) in
    let seen_size : length c.clear_rights.new.seen ≡ m.seen.len = omega (arith, c.clear_rights.auto.seen, c.deref_mut-4.ensures.len, m.seen.ok) in
    let scanned_size : length c.clear_rows.new.scanned ≡ m.scanned.len = omega (arith, c.clear_rows.auto.scanned, c.deref_mut-5.ensures.len, m.scanned.ok) in
    let place_is = whole m.place.len c.shift.new.place m.place.items place_size (search rules) in
    let owner_is = whole m.owner.len c.shift.new.owner m.owner.items owner_size (search rules) in
    let cursor_is = whole m.cursor.len c.search-found.new.cursor m.cursor.items cursor_size (search rules) in
    let heads : m.rows.head.len ≡ length m.rows.head.items = omega (arith, m.rows.head.ok) in
    let sound =
    cursors_sound m.rows.of.items m.rows.pairs.items m.rows.head.items m.rows.next.items m.cursor.items c.search-found.new.cursor m.place.items m.owner.items
    m.seen.items m.scanned.items m.rows.head.len c.self.invariant heads c.in_ok-out.ensures.cursors in
    let found_is = whole m.seen.len c.search-found.new.seen m.seen.items found_size (search rules) in
    let gone_is = whole m.scanned.len c.search-found.new.scanned m.scanned.items gone_size (search rules) in
    let seen_is = whole m.seen.len c.clear_rights.new.seen c.search-found.new.seen seen_size found_size in
    let scanned_is = whole m.scanned.len c.clear_rows.new.scanned c.search-found.new.scanned scanned_size gone_size in
    let owners : length c.shift.new.owner ≡ length m.owner.items = omega (arith, owner_size, m.owner.ok) in
    rw (place_is, owner_is, cursor_is, found_is, gone_is, seen_is, scanned_is)
    (placed_sound m.rows.of.items m.rows.pairs.items m.rows.head.items m.rows.next.items c.search-found.new.cursor m.place.items m.owner.items c.shift.new.place
    c.shift.new.owner m.seen.items m.scanned.items c.clear_rights.new.seen c.clear_rows.new.scanned sound c.shift.ensures.partial owners
    (record { each = omega (arith, seen_size, m.seen.ok); clear = c.clear_rights.ensures.clear })
    (record { each = omega (arith, scanned_size, m.scanned.ok); clear = c.clear_rows.ensures.clear }))

pub returns-in-Some-clause-placed : goal.returns-in-Some-clause-placed
returns-in-Some-clause-placed c =
    let m = c.self.inside in
    let place_size : length c.shift.new.place ≡ m.place.len = omega (arith, c.shift.auto.place, c.deref_mut-in-Some.ensures.len, m.place.ok) in
    let place_is = whole m.place.len c.shift.new.place m.place.items place_size (search rules) in
    let begin = first_left c.in_ok-trail.trail.lefts.items c.search-found.new.trail.lefts.items c.args.left c.in_ok-trail.ensures.lefts c.in_ok-out.ensures.first in
    let old : c.args.self.now.place ≡ m.place.items = ap (λ (x : State). x.place) (sym c.if-take_free.ensures.unchanged ∙ sym c.self.view_is) in
    let adds : AddsLeft m.place.items c.shift.new.place c.args.left = rw begin at (rw c.deref_mut-in-Some.ensures.value at c.shift.ensures.adds) in
    rw (place_is, old) adds

pub returns-in-Some-clause-owners : goal.returns-in-Some-clause-owners
returns-in-Some-clause-owners c =
    let m = c.self.inside in
    let owner_size : length c.shift.new.owner ≡ m.owner.len = omega (arith, c.shift.auto.owner, c.deref_mut-in-Some-2.ensures.len, m.owner.ok) in
    let owner_is = whole m.owner.len c.shift.new.owner m.owner.items owner_size (search rules) in
    let old : c.args.self.now.owner ≡ m.owner.items = ap (λ (x : State). x.owner) (sym c.if-take_free.ensures.unchanged ∙ sym c.self.view_is) in
    let kept : KeepsOwners m.owner.items c.shift.new.owner = rw c.deref_mut-in-Some-2.ensures.value at c.shift.ensures.owners in
    rw (owner_is, old) kept

pub returns-in-None-clause-violator : goal.returns-in-None-clause-violator
returns-in-None-clause-violator c =
    let m = c.self.inside in
    let t = rw c.deref.ensures.value at c.in_ok-out.ensures.trail in
    let begin = first_left c.in_ok-trail.trail.lefts.items c.search-found.new.trail.lefts.items c.args.left c.in_ok-trail.ensures.lefts c.in_ok-out.ensures.first in
    let free = rw (← c.if-take_free.ensures.unchanged, ← c.self.view_is) at c.requires.unplaced in
    stuck_violator _ _ (length c.deref.result.now) m.place.items m.owner.items _ _ _ _ t c.in_ok-out.ensures.reach c.self.invariant.partial
    (rw begin free) (λ k h. (rw c.in-None.is at c.in_ok-out.ensures.stuck) k (omega (arith, c.search-found.new.trail.lefts.ok)))

pub returns-in-None-clause-itself : goal.returns-in-None-clause-itself
returns-in-None-clause-itself c =
    let begin = first_left c.in_ok-trail.trail.lefts.items c.search-found.new.trail.lefts.items c.args.left c.in_ok-trail.ensures.lefts c.in_ok-out.ensures.first in
    let some : 0 < length c.search-found.new.trail.lefts.items = omega (arith, c.in_ok-out.ensures.trail.one_more) in
    subst (Contains c.search-found.new.trail.lefts.items) begin (contains_at c.search-found.new.trail.lefts.items 0 some)

pub returns-in-None-clause-none : goal.returns-in-None-clause-none
returns-in-None-clause-none c = violator_bars _ _ _ (returns-in-None-clause-violator c)
