use Rattle.prog_text.proofs.Descends.{out_of, no_child_named, kid_looked_up}
use Rattle.prog_text.proofs.graph.GraphNames.kid.Goals as goal

pub returns-in_err-mode : goal.returns-in_err-mode
returns-in_err-mode c = out_of _ _ c.from_residual.result c.from_residual.ensures (λ n is. c.in_err-mode.ensures is.in_mode is.is_mode)

pub returns-in_err-child : goal.returns-in_err-child
returns-in_err-child c =
    out_of _ _ c.from_residual-in_err-child.result c.from_residual-in_err-child.ensures
    (no_child_named c.args.graph.now c.law.ensures c.args.pb.0 c.in_ok-mode.mode c.args.step.mode.now c.args.step.child.now c.args.step.instance c.requires.of.plain c.in_ok-mode.ensures c.in_err-child.ensures)

pub returns : goal.returns
returns c =
    kid_looked_up c.args.graph.now c.law.ensures c.args.pb.0 c.in_ok-mode.mode c.in_ok-child.child c.args.step.mode.now c.args.step.child.now c.args.step.instance c.requires.of.plain
    c.in_ok-mode.ensures c.in_ok-child.ensures c.child_of.result c.child_of.ensures
