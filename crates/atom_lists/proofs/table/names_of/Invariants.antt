use Rattle.std.proofs.Common.{◌≡◌, take}
use Rattle.atom_lists.specs.Lists.{names_of}
use Rattle.atom_lists.proofs.table.names_of.Given as goal

abbrev pub invariant-loop-atom : goal.invariant-loop-atom
invariant-loop-atom l = l.names ≡ take l.atom-index (names_of l.atoms)
