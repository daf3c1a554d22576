use Rattle.std.proofs.Common.{◌≡◌, ◌++◌, drop, map}
use Rattle.blif_parts.specs.Atoms.{output_atom}
use Rattle.blif_atoms.proofs.pads.push_outputs.Given as goal

abbrev pub invariant-loop-net : goal.invariant-loop-net
invariant-loop-net l = l.atoms.items ++ map (output_atom l.nets) (drop l.net-index l.outputs) ≡ l.initial.atoms.items ++ map (output_atom l.nets) l.outputs
