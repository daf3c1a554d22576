use Rattle.std.proofs.Common.{◌-◌, map}
use Rattle.vtr_base.specs.Lists.{up_from}
use Rattle.pb_expand.specs.Graph.{pin_at}
use Rattle.pb_expand.proofs.Fills.{Fills}
use Rattle.pb_expand.proofs.places.push_bits.Given as goal

abbrev pub invariant-loop-bit : goal.invariant-loop-bit
invariant-loop-bit l = Fills l.fn.pins.items l.pins.items (map (pin_at l.pb.0 l.port) (up_from l.bit (l.width - l.bit))) (map (pin_at l.pb.0 l.port) (up_from 0 l.width))
