use Rattle.arch_types.specs.Blocks.{port_names}
use Rattle.rr_places.proofs.TileNames.{name_at, fresh_name, next_name}
use Rattle.rr_places.proofs.tile_names.port_places.Goals as goal

pub add-requires-clause-fresh : goal.add-requires-clause-fresh
add-requires-clause-fresh c =
    fresh_name (port_names c.args.ports.now) c.loop-port.places c.loop-port.port-index c.as_bytes.result.now c.requires.different
    (name_at (λ p. p.name) c.args.ports.now c.loop-port.port-index c.port-item.result c.as_bytes.result.now c.loop-port-test.true c.port-item.is c.as_bytes.ensures)
    c.loop-port.invariant

pub loop-port-preserved : goal.loop-port-preserved
loop-port-preserved c =
    next_name (port_names c.args.ports.now) c.loop-port.places c.add.new.self c.loop-port.port-index c.as_bytes.result.now
    (name_at (λ p. p.name) c.args.ports.now c.loop-port.port-index c.port-item.result c.as_bytes.result.now c.loop-port-test.true c.port-item.is c.as_bytes.ensures)
    c.loop-port.invariant c.in_ok-add.ensures.ok
