use Rattle.rr_items.proofs.switches.read_switch.Goals as goal

pub returns-in_err-id : goal.returns-in_err-id
returns-in_err-id c = rw c.from_residual.ensures (λ switch says. c.in_err-id.ensures switch.id says.id)
