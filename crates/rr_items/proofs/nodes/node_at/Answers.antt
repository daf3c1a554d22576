use Rattle.rr_items.proofs.nodes.node_at.Goals as goal

pub returns-in_err-id : goal.returns-in_err-id
returns-in_err-id c = rw c.from_residual.ensures (λ node says. c.in_err-id.ensures node.id says.id)

pub returns-in_err-span : goal.returns-in_err-span
returns-in_err-span c = rw c.from_residual-in_err-span.ensures (λ node says. c.in_err-span.ensures node.span says.span)
