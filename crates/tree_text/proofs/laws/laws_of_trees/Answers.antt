use Rattle.std.specs.Str.Lines.{lines}
use Rattle.tree_lines.specs.Nodes.{task_names}
use Rattle.tree_text.proofs.OneTree as trees
use Rattle.tree_text.proofs.TaskNames.{names_once}
use Rattle.tree_text.proofs.laws.laws_of_trees.Goals as goal

pub returns-clause-one : goal.returns-clause-one
returns-clause-one c =
    let names = task_names c.args.net.now.atoms c.args.task.now in
    let once = names_once c.args.net.now.atoms c.args.task.now c.requires.atoms c.law.ensures.atoms.once in
    λ bytes a b in_a in_b. trees.one_list c.args.graph.now c.args.task.now names (λ line x y is_x is_y. c.one_node.ensures c.requires.plain c.args.task.now names line x y once is_x is_y)
    (lines bytes) a b in_a.each in_b.each

pub returns-clause-read : goal.returns-clause-read
returns-clause-read c =
    let names = task_names c.args.net.now.atoms c.args.task.now in
    let once = names_once c.args.net.now.atoms c.args.task.now c.requires.atoms c.law.ensures.atoms.once in
    trees.never_both c.args.graph.now c.args.task.now names (λ line x y is_x is_y. c.one_node.ensures c.requires.plain c.args.task.now names line x y once is_x is_y)

pub returns-clause-refused : goal.returns-clause-refused
returns-clause-refused c =
    let names = task_names c.args.net.now.atoms c.args.task.now in
    let once = names_once c.args.net.now.atoms c.args.task.now c.requires.atoms c.law.ensures.atoms.once in
    trees.one_refusal c.args.graph.now c.args.task.now names (λ line x y is_x is_y. c.one_node.ensures c.requires.plain c.args.task.now names line x y once is_x is_y)
