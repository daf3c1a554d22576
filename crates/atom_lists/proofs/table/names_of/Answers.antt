use Rattle.std.proofs.Common.{◌≤◌, length, ap, arith}
use Rattle.std.proofs.lemmas.List.{length-take-le, length-map}
use Rattle.atom_lists.specs.Lists.{names_of}
use Rattle.atom_lists.proofs.Fronts.{name_at, fresh_name, next_name}
use Rattle.atom_lists.proofs.table.names_of.Goals as goal

pub add-requires-clause-few : goal.add-requires-clause-few
add-requires-clause-few c =
    let many : length (names_of c.args.atoms.now) ≤ 65536 = omega (arith, length-map c.args.atoms.now (λ a. a.name), c.requires.few) in
    let inside : c.loop-atom.atom-index ≤ length (names_of c.args.atoms.now) = omega (arith, length-map c.args.atoms.now (λ a. a.name), c.loop-atom-test.true) in
    omega (arith, ap length c.loop-atom.invariant, length-take-le c.loop-atom.atom-index (names_of c.args.atoms.now) inside)

pub add-requires-clause-fresh : goal.add-requires-clause-fresh
add-requires-clause-fresh c =
    fresh_name (names_of c.args.atoms.now) c.loop-atom.names c.loop-atom.atom-index c.as_bytes.result.now c.requires.once
    (name_at (λ a. a.name) c.args.atoms.now c.loop-atom.atom-index c.atom-item.result c.as_bytes.result.now c.loop-atom-test.true c.atom-item.is c.as_bytes.ensures)
    c.loop-atom.invariant

pub loop-atom-preserved : goal.loop-atom-preserved
loop-atom-preserved c =
    next_name (names_of c.args.atoms.now) c.loop-atom.names c.add.new.self c.loop-atom.atom-index c.as_bytes.result.now
    (name_at (λ a. a.name) c.args.atoms.now c.loop-atom.atom-index c.atom-item.result c.as_bytes.result.now c.loop-atom-test.true c.atom-item.is c.as_bytes.ensures)
    c.loop-atom.invariant c.in_ok-add.ensures.ok
