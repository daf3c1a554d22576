use Rattle.std.proofs.Common.{◌≡◌, take}
use Rattle.tree_lines.specs.Nodes.{task_names}
use Rattle.tree_text.proofs.table.task_atoms.Given as goal

abbrev pub invariant-loop-number : goal.invariant-loop-number
invariant-loop-number l = l.names ≡ take l.number-index (task_names l.net.atoms l.task)
