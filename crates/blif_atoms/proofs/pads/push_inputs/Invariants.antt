use Rattle.std.proofs.Common.{◌≡◌, ◌++◌, drop, map}
use Rattle.blif_parts.specs.Atoms.{input_atom}
use Rattle.blif_atoms.proofs.pads.push_inputs.Given as goal

abbrev pub invariant-loop-net : goal.invariant-loop-net
invariant-loop-net l = l.atoms.items ++ map (input_atom l.nets) (drop l.net-index l.inputs) ≡ l.initial.atoms.items ++ map (input_atom l.nets) l.inputs
