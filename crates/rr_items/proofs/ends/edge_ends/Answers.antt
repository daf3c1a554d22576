use Rattle.rr_items.proofs.ends.edge_ends.Goals as goal

pub returns-in_err-source : goal.returns-in_err-source
returns-in_err-source c = rw c.from_residual.ensures (λ ends says. c.in_err-source.ensures ends.source says.source)

pub returns-in_err-sink : goal.returns-in_err-sink
returns-in_err-sink c = rw c.from_residual-in_err-sink.ensures (λ ends says. c.in_err-sink.ensures ends.sink says.sink)

pub returns-in_err-switch : goal.returns-in_err-switch
returns-in_err-switch c = rw c.from_residual-in_err-switch.ensures (λ ends says. c.in_err-switch.ensures ends.switch says.switch)
