use Rattle.net_types.proofs.netlist.Netlist.sinks.Goals as goal

pub returns : goal.returns
returns c = rw (← c.self.view_is) (c.self.invariant.sinks.each c.args.net c.group.result.now c.group.ensures)
