use Rattle.std.proofs.Common.{take}
use Rattle.tree_lines.specs.Words.{texts, AreEach, IsPin}
use Rattle.tree_lines.proofs.lists.pins_named.Given as goal

abbrev pub invariant-loop-word : goal.invariant-loop-word
invariant-loop-word l = AreEach (IsPin l.graph) (take l.word-index (texts l.words)) l.found.items
