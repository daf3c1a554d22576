use Rattle.std.proofs.Common.{◌≡◌, Some, sym, ap, subst, ◌∙◌}
use Rattle.std.specs.Prelude.{slice_get}
use Rattle.std.specs.Option.{option_copied}
use Rattle.task_reach.specs.Reached.{DrivesAt}
use Rattle.task_reach.proofs.Starting.{no_maker_atom, first_to, first_from}
use Rattle.task_reach.proofs.starts.is_first_pin.Goals as goal

pub returns-in_default-atom_at : goal.returns-in_default-atom_at
returns-in_default-atom_at c = (
  λ no. let bad : ⊥ = cc no in absurd bad,
  λ first. absurd (no_maker_atom c.args.graph.now c.args.net.now.atoms c.args.task.now c.args.trail.now.made c.args.number c.args.pin.0 c.in-Some-maker.maker c.in-Some.of.now
      (sym c.get.ensures.value ∙ ap (λ o. option_copied o) c.in-Some.is) c.in-Some-maker.is c.in_default-atom_at.ensures first),
)

pub returns : goal.returns
returns c =
    let net : slice_get c.args.task.now.nets c.args.number ≡ Some c.in-Some.of.now = sym c.get.ensures.value ∙ ap (λ o. option_copied o) c.in-Some.is in
    let atom = c.in-Some-atom_at.atom.now in
    let drives = subst (λ outs. DrivesAt c.args.graph.now atom.kind outs c.in-Some.of.now.net c.pin_at-at.result) c.as_slice.ensures (c.drives_at.ensures.0 c.if-not-drives_at.false) in (
      λ yes. first_to c.args.graph.now c.args.net.now.atoms c.args.task.now c.args.trail.now.made c.args.number c.args.pin.0 c.in-Some-maker.maker c.in-Some.of.now net c.in-Some-maker.is
          atom c.in-Some-atom_at.ensures c.pin_at-at.result c.pin_at-at.ensures.is drives (c.is_open_to.ensures.0 yes),
      λ first. c.is_open_to.ensures.1 (first_from c.args.graph.now c.args.net.now.atoms c.args.task.now c.args.trail.now.made c.args.number c.args.pin.0 c.in-Some-maker.maker c.in-Some.of.now net c.in-Some-maker.is
          atom c.in-Some-atom_at.ensures c.pin_at-at.result c.pin_at-at.ensures.is first).1,
    )
