use Rattle.pb_expand.specs.Graph.{pins_of_ports}
use Rattle.pb_expand.proofs.Fills.{Fills, ports_from}
use Rattle.pb_expand.proofs.places.push_ports.Given as goal

abbrev pub invariant-loop-port : goal.invariant-loop-port
invariant-loop-port l = Fills l.fn.pins.items l.pins.items (ports_from l.pb.0 l.port l.ports) (pins_of_ports l.pb.0 0 l.ports)
