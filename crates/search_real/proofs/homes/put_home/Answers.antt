use Rattle.std.proofs.Common.{◌≡◌, Some, sym, ap, ◌∙◌, arith}
use Rattle.task_types.specs.declared.decision.Occupant.TheVariants.{Atom}
use Rattle.task_types.specs.Decisions.{occupant_in}
use Rattle.search_real.proofs.Placing.{home_put}
use Rattle.search_real.proofs.homes.put_home.Goals as goal

pub bounds-homes-place : goal.bounds-homes-place
bounds-homes-place c =
    let is : occupant_in c.args.trail.now.made c.args.leaf.0 ≡ Some (Atom c.in-Some-Atom.place) = sym c.in-Some-Atom.ensures ∙ ap (λ o. Some o) c.in-Some-Atom.field-0-is in
    omega (arith, (c.requires.held.leaves c.args.leaf.0 (Atom c.in-Some-Atom.place) is).fits.0, c.requires.before.long)

pub returns-in-Some-Atom : goal.returns-in-Some-Atom
returns-in-Some-Atom c =
    let is : occupant_in c.args.trail.now.made c.args.leaf.0 ≡ Some (Atom c.in-Some-Atom.place) = sym c.in-Some-Atom.ensures ∙ ap (λ o. Some o) c.in-Some-Atom.field-0-is in
    home_put c.args.task.now c.args.trail.now.made c.args.graph.now c.args.homes.now c.args.leaf.0 c.in-Some-Atom.place c.requires.held c.requires.before
    (c.requires.held.leaves c.args.leaf.0 (Atom c.in-Some-Atom.place) is).fits.0 is
