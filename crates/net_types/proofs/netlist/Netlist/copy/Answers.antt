use Rattle.net_types.proofs.netlist.Netlist.copy.Goals as goal

pub into_netlist-requires : goal.into_netlist-requires
into_netlist-requires c = rw (c.in_ok-nets.ensures, c.nets.ensures, c.in_ok-atoms.ensures, c.atoms.ensures) c.law.ensures
