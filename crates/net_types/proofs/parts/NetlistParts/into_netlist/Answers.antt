use Rattle.net_types.proofs.parts.NetlistParts.into_netlist.Goals as goal

pub drivers_of-requires-clause-within : goal.drivers_of-requires-clause-within
drivers_of-requires-clause-within c = rw (c.as_slice.ensures, c.count.ensures) c.requires.within

pub sinks_of-requires-clause-within : goal.sinks_of-requires-clause-within
sinks_of-requires-clause-within c = rw (c.as_slice-2.ensures, c.count-2.ensures) c.requires.within
