use Rattle.std.proofs.Common.{take}
use Rattle.tree_lines.specs.Words.{texts, AreEach, IsNeed}
use Rattle.tree_lines.proofs.lists.needs.Given as goal

abbrev pub invariant-loop-word : goal.invariant-loop-word
invariant-loop-word l = AreEach (IsNeed l.task) (take l.word-index (texts l.words)) l.found.items
