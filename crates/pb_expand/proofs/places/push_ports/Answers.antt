use Rattle.std.proofs.Common.{◌+◌, ◌<◌, Err, map, length, sym, ap, subst}
use Rattle.vtr_base.specs.Lists.{up_from}
use Rattle.pb_expand.specs.declared.error.SizeError.TheVariants as size
use Rattle.pb_expand.specs.Graph.{pin_at, pins_of_ports}
use Rattle.pb_expand.proofs.Told.{passed_on}
use Rattle.pb_expand.proofs.Fills.{ports_from, ports_step, no_room_for, length-bits}
use Rattle.pb_expand.proofs.places.push_ports.Goals as goal

pub returns-in_err-push_bits-clause-many : goal.returns-in_err-push_bits-clause-many
returns-in_err-push_bits-clause-many c = λ told.
    let full = c.in_err-push_bits.ensures.many (ap Err (passed_on _ c.in_err-push_bits.field-0.0 size.TooMany c.from_residual.ensures.1 told)) in
    no_room_for c.args.pins.now.items c.loop-port.pins.items (ports_from c.args.pb.0 c.loop-port.port c.args.ports.now)
    (map (pin_at c.args.pb.0 c.loop-port.port) (up_from 0 c.index-ports-port.result.width)) (ports_from c.args.pb.0 (c.loop-port.port + 1) c.args.ports.now)
    (pins_of_ports c.args.pb.0 0 c.args.ports.now) c.loop-port.invariant
    (ports_step c.args.pb.0 c.loop-port.port c.args.ports.now c.index-ports-port.result c.loop-port-test.true c.index-ports-port.is)
    (subst (λ k. 1048576 < length c.loop-port.pins.items + k) (sym (length-bits c.args.pb.0 c.loop-port.port 0 c.index-ports-port.result.width)) full)
