use Rattle.tree_lines.specs.Words.{texts}
use Rattle.tree_lines.proofs.Said.{only_crowd}
use Rattle.tree_lines.proofs.Behind.{no_crowd, no_needs, no_crowd_pins}
use Rattle.tree_lines.proofs.node.crowd.Goals as goal

pub returns-in_default : goal.returns-in_default
returns-in_default c =
    only_crowd c.args.graph.now c.args.task.now c.args.atoms.now (texts c.args.words.now)
    (no_crowd c.args.graph.now c.args.task.now (texts c.args.words.now) c.in_default.ensures)

pub returns-in_default-2 : goal.returns-in_default-2
returns-in_default-2 c =
    only_crowd c.args.graph.now c.args.task.now c.args.atoms.now (texts c.args.words.now)
    (no_needs c.args.graph.now c.args.task.now (texts c.args.words.now) (texts c.in-Some.numbers.now) (texts c.in-Some.list.now) c.in-Some.ensures
    (rw c.in_default-2.is at c.in_ok-needs.ensures))

pub returns-in-None : goal.returns-in-None
returns-in-None c =
    only_crowd c.args.graph.now c.args.task.now c.args.atoms.now (texts c.args.words.now)
    (no_crowd_pins c.args.graph.now c.args.task.now (texts c.args.words.now) (texts c.in-Some.numbers.now) (texts c.in-Some.list.now) c.in-Some.ensures
    (rw c.in-None.is at c.in_ok-pins.ensures))
