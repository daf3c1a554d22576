use Rattle.arch_types.specs.Tiles.{tile_names}
use Rattle.loc_prefixes.proofs.Naming.{name_at, fresh_name, next_name}
use Rattle.loc_prefixes.proofs.tile_names.tile_places.Goals as goal

pub add-requires-clause-fresh : goal.add-requires-clause-fresh
add-requires-clause-fresh c =
    fresh_name (tile_names c.args.tiles.now) c.loop-tile.places c.loop-tile.tile-index c.as_bytes.result.now c.requires.different
    (name_at (λ t. t.name) c.args.tiles.now c.loop-tile.tile-index c.tile-item.result c.as_bytes.result.now c.loop-tile-test.true c.tile-item.is c.as_bytes.ensures)
    c.loop-tile.invariant

pub loop-tile-preserved : goal.loop-tile-preserved
loop-tile-preserved c =
    next_name (tile_names c.args.tiles.now) c.loop-tile.places c.add.new.self c.loop-tile.tile-index c.as_bytes.result.now
    (name_at (λ t. t.name) c.args.tiles.now c.loop-tile.tile-index c.tile-item.result c.as_bytes.result.now c.loop-tile-test.true c.tile-item.is c.as_bytes.ensures)
    c.loop-tile.invariant c.in_ok-add.ensures.ok
