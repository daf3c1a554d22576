use Rattle.blif_atoms.proofs.Parts.{inputs_low, outputs_low, elems_are_atoms}
use Rattle.blif_atoms.proofs.whole.into_atoms.Goals as goal

pub push_inputs-requires : goal.push_inputs-requires
push_inputs-requires c = rw c.as_slice.ensures (inputs_low c.args.parts c.requires.within)

pub push_outputs-requires : goal.push_outputs-requires
push_outputs-requires c = rw c.as_slice-2.ensures (outputs_low c.args.parts c.requires.within)

pub push_elems-requires : goal.push_elems-requires
push_elems-requires c = elems_are_atoms c.args.parts c.requires.each
