use Rattle.std.proofs.Common.{◌≡◌, List, ℕ, IfOk, MatchOption, ap, subst, ◌∙◌}
use Rattle.task_types.specs.declared.tree.TreeNode.{TreeNode}
use Rattle.tree_lines.specs.Words.{texts, words_of}
use Rattle.tree_lines.specs.Nodes.{SaysNode}
use Rattle.tree_lines.proofs.node.read_node.Goals as goal

pub returns : goal.returns
returns c =
    let are : texts c.as_slice.result.now ≡ words_of c.args.line.now = ap texts c.as_slice.ensures.value ∙ c.in_ok-words.ensures in
    subst
    (λ (words : List (List ℕ)). IfOk c.node_said.result (λ found. MatchOption found ((node : TreeNode) → SaysNode c.args.graph.now c.args.task.now c.args.atoms.now words node → ⊥)
    (SaysNode c.args.graph.now c.args.task.now c.args.atoms.now words)))
    are c.node_said.ensures
