use Rattle.std.proofs.Common.{◌≡◌, ◌++◌, take}
use Rattle.std.specs.List.{flat_map}
use Rattle.tree_lines.specs.Nodes.{task_names}
use Rattle.tree_write.specs.Spelling.{node_text}
use Rattle.tree_write.proofs.write.write_tree.Given as goal

abbrev pub invariant-loop-node : goal.invariant-loop-node
invariant-loop-node l = l.out.items ≡ l.initial.out.items ++ flat_map (node_text l.graph (task_names l.net.atoms l.task)) (take l.node-index l.node-items)
