use Rattle.std.proofs.Common.{◌≡◌, ◌+◌, length}
use Rattle.pb_expand.specs.Graph.{pins_of_ports}
use Rattle.pb_expand.proofs.Fills.{ports_from}
use Rattle.pb_expand.proofs.shape.pin_count.Given as goal

abbrev pub invariant-loop-port : goal.invariant-loop-port
invariant-loop-port l = l.count + length (ports_from 0 l.port-index l.ports) ≡ length (pins_of_ports 0 0 l.ports)
