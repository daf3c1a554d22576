use Rattle.std.proofs.Common.{take}
use Rattle.tree_lines.specs.Words.{texts, AreEach, NamesAtom}
use Rattle.tree_lines.proofs.lists.atoms_named.Given as goal

abbrev pub invariant-loop-word : goal.invariant-loop-word
invariant-loop-word l = AreEach (NamesAtom l.atoms) (take l.word-index (texts l.words)) l.found.items
