use Rattle.std.proofs.Common.{take}
use Rattle.vtr_base.specs.Lists.{Has}
use Rattle.tree_lines.specs.Words.{texts}
use Rattle.tree_lines.proofs.words.cut_at.Given as goal

abbrev pub invariant-loop-i : goal.invariant-loop-i
invariant-loop-i l = Has (take l.i (texts l.words)) l.at → ⊥
