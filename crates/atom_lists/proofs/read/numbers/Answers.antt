use Rattle.std.proofs.Common.{◌≡◌, ◌+◌, ◌≤◌, ℕ, List, [], Bor, map, length, subst, sym, ◌∙◌, arith}
use Rattle.std.proofs.lemmas.List.{length-map}
use Rattle.list_laws.proofs.Members.{at_has}
use Rattle.atom_lists.specs.Lists.{IsUnknown, IsAgain, SpellAtoms}
use Rattle.atom_lists.proofs.Fronts.{view_at}
use Rattle.atom_lists.proofs.Entries.{AreNumbered, one_numbered, all_numbered, so_many, unknown_next, again_next}
use Rattle.atom_lists.proofs.read.numbers.Goals as goal

pub returns-in_default-clause-refused : goal.returns-in_default-clause-refused
returns-in_default-clause-refused c =
    let entries = map (λ (line : Bor (List ℕ)). line.now) c.args.entries.now in
    let many : length entries ≡ length c.args.entries.now = length-map c.args.entries.now (λ (line : Bor (List ℕ)). line.now) in
    let few : length entries ≤ 4096 = omega (arith, many, c.requires) in
    let low : c.loop-entry.entry-index ≤ length entries = omega (arith, many, c.loop-entry-test.true) in
    let place = so_many c.args.known.now entries c.loop-entry.seen c.loop-entry.entry-index c.loop-entry.numbers.items c.loop-entry.invariant low in
    subst (IsUnknown c.args.known.now entries) (sym (c.count.ensures ∙ place))
    (unknown_next c.args.known.now entries c.loop-entry.seen c.loop-entry.entry-index c.loop-entry.numbers.items _ c.loop-entry.invariant few
    (view_at (λ (line : Bor (List ℕ)). line.now) c.args.entries.now c.loop-entry.entry-index (record { ref_ptr = (0, 0); now = [] }) c.loop-entry-test.true)
    c.in_default.ensures)

pub returns-in-Some-find-clause-refused : goal.returns-in-Some-find-clause-refused
returns-in-Some-find-clause-refused c =
    let entries = map (λ (line : Bor (List ℕ)). line.now) c.args.entries.now in
    let many : length entries ≡ length c.args.entries.now = length-map c.args.entries.now (λ (line : Bor (List ℕ)). line.now) in
    let few : length entries ≤ 4096 = omega (arith, many, c.requires) in
    let low : c.loop-entry.entry-index ≤ length entries = omega (arith, many, c.loop-entry-test.true) in
    let place = so_many c.args.known.now entries c.loop-entry.seen c.loop-entry.entry-index c.loop-entry.numbers.items c.loop-entry.invariant low in
    subst (IsAgain c.args.known.now entries) (sym (c.count-in-Some-find.ensures ∙ place))
    (again_next c.args.known.now entries c.loop-entry.seen c.loop-entry.entry-index _ c.loop-entry.numbers.items _ c.loop-entry.invariant few
    (view_at (λ (line : Bor (List ℕ)). line.now) c.args.entries.now c.loop-entry.entry-index (record { ref_ptr = (0, 0); now = [] }) c.loop-entry-test.true)
    c.in-Some-find.ensures.there)

pub add-requires-clause-fresh : goal.add-requires-clause-fresh
add-requires-clause-fresh c = λ has. (let there = at_has c.loop-entry.seen _ has in c.in_default-find.ensures there.0 there.1)

pub loop-entry-preserved : goal.loop-entry-preserved
loop-entry-preserved c =
    subst (AreNumbered c.args.known.now (map (λ (line : Bor (List ℕ)). line.now) c.args.entries.now) (c.loop-entry.entry-index + 1) c.add.new.self)
    (sym c.in_ok-push.ensures.items)
    (one_numbered c.args.known.now (map (λ (line : Bor (List ℕ)). line.now) c.args.entries.now) c.loop-entry.entry-index c.loop-entry.seen c.add.new.self
    c.loop-entry.numbers.items _ c.in-Some.number c.loop-entry.invariant
    (view_at (λ (line : Bor (List ℕ)). line.now) c.args.entries.now c.loop-entry.entry-index (record { ref_ptr = (0, 0); now = [] }) c.loop-entry-test.true)
    c.in-Some.ensures.there c.in_default-find.ensures c.in_ok-add.ensures.ok)

pub returns-clause-spells : goal.returns-clause-spells
returns-clause-spells c =
    let entries = map (λ (line : Bor (List ℕ)). line.now) c.args.entries.now in
    let many : length entries ≡ length c.args.entries.now = length-map c.args.entries.now (λ (line : Bor (List ℕ)). line.now) in
    let few : length entries ≤ 4096 = omega (arith, many, c.requires) in
    let all : length entries ≤ c.loop-entry.entry-index = omega (arith, many, c.loop-entry-test.false) in
    subst (SpellAtoms c.args.known.now entries) (sym c.from_vec.ensures)
    (all_numbered c.args.known.now entries c.loop-entry.seen c.loop-entry.entry-index c.loop-entry.numbers.items c.loop-entry.invariant all few)
