use Rattle.rr_items.proofs.nodes.span_of.Goals as goal

pub returns-in_err-x_low : goal.returns-in_err-x_low
returns-in_err-x_low c = rw c.from_residual.ensures (λ span says. c.in_err-x_low.ensures span.x_low says.x_low)

pub returns-in_err-x_high : goal.returns-in_err-x_high
returns-in_err-x_high c = rw c.from_residual-in_err-x_high.ensures (λ span says. c.in_err-x_high.ensures span.x_high says.x_high)

pub returns-in_err-y_low : goal.returns-in_err-y_low
returns-in_err-y_low c = rw c.from_residual-in_err-y_low.ensures (λ span says. c.in_err-y_low.ensures span.y_low says.y_low)

pub returns-in_err-y_high : goal.returns-in_err-y_high
returns-in_err-y_high c = rw c.from_residual-in_err-y_high.ensures (λ span says. c.in_err-y_high.ensures span.y_high says.y_high)
