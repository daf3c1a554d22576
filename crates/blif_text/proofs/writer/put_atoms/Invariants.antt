use Rattle.blif_text.proofs.Bodies.{AreBegun}
use Rattle.blif_text.proofs.writer.put_atoms.Given as goal

abbrev pub invariant-loop-atom : goal.invariant-loop-atom
invariant-loop-atom l = AreBegun l.models l.nets l.atoms l.atom-index l.initial.out.items l.out.items
