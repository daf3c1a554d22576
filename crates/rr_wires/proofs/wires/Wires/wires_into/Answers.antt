use Rattle.rr_wires.proofs.wires.Wires.wires_into.Goals as goal

pub returns : goal.returns
returns c = rw (← c.self.view_is) (c.self.invariant.into.each c.args.wire c.group.result.now c.group.ensures)
