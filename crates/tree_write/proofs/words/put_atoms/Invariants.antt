use Rattle.std.proofs.Common.{◌≡◌, ◌++◌, take}
use Rattle.std.specs.List.{flat_map}
use Rattle.tree_lines.specs.Nodes.{task_names}
use Rattle.tree_write.specs.Spelling.{atom_word}
use Rattle.tree_write.proofs.words.put_atoms.Given as goal

abbrev pub invariant-loop-place : goal.invariant-loop-place
invariant-loop-place l = l.out.items ≡ l.initial.out.items ++ flat_map (atom_word (task_names l.net.atoms l.task)) (take l.place-index l.places)
