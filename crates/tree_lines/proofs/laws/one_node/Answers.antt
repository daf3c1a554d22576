use Rattle.tree_lines.specs.Words.{words_of}
use Rattle.tree_lines.proofs.OneNode as nodes
use Rattle.tree_lines.proofs.laws.one_node.Goals as goal

pub returns : goal.returns
returns c plain t names line a b once is_a is_b =
    nodes.one_node c.args.graph.now c.one_owner.ensures (c.names_are_one.ensures.instance plain) (c.names_are_one.ensures.pin plain) (c.names_are_one.ensures.mode plain)
    t names once (words_of line) a b is_a is_b
