use Rattle.tree_lines.proofs.Behind.{no_mode}
use Rattle.tree_lines.proofs.variable.edge.Goals as goal

pub returns-in_err-mode : goal.returns-in_err-mode
returns-in_err-mode c =
    rw c.from_residual-in_err-mode.ensures
    (no_mode c.args.graph.now c.args.task.now (c.names_are_one.ensures.pin c.requires.plain) c.args.keyword.now c.args.pin.now c.args.mode.now c.in_ok-pin.pin
    c.in_ok-pin.ensures c.in_err-mode.ensures)
