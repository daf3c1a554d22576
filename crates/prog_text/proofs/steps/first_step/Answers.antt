use Rattle.prog_text.proofs.Descends.{out_of, nil_by, some_by, no_slash, late_slash, begun, no_colon, no_child}
use Rattle.prog_text.proofs.steps.first_step.Goals as goal

pub returns-in_err-before : goal.returns-in_err-before
returns-in_err-before c = out_of _ _ c.from_residual.result c.from_residual.ensures (no_slash c.args.text.now c.in_err-before.ensures)

pub returns-then-not-is_empty : goal.returns-then-not-is_empty
returns-then-not-is_empty c = late_slash _ _ _ c.in_ok-before.ensures (some_by _ c.if-not-is_empty.ensures)

pub returns-in_err-mode : goal.returns-in_err-mode
returns-in_err-mode c =
    out_of _ _ c.from_residual-in_err-mode.result c.from_residual-in_err-mode.ensures
    (no_colon c.args.text.now _ (begun _ _ _ c.in_ok-before.ensures (nil_by _ c.if-not-is_empty.ensures)) c.in_err-mode.ensures)

pub returns-in_err-child : goal.returns-in_err-child
returns-in_err-child c =
    out_of _ _ c.from_residual-in_err-child.result c.from_residual-in_err-child.ensures
    (no_child c.args.text.now _ _ _ (begun _ _ _ c.in_ok-before.ensures (nil_by _ c.if-not-is_empty.ensures)) c.in_ok-mode.ensures c.in_err-child.ensures)
