use Rattle.std.proofs.Common.{◌≡◌, length, take}
use Rattle.sparse_set.specs.Sets.{held_on}
use Rattle.node_homeless.proofs.homeless.are_listed.Given as goal

abbrev pub invariant-loop-atom : goal.invariant-loop-atom
invariant-loop-atom l = l.listed ≡ held_on (take l.atom-index l.atoms) (length l.task.atoms)
