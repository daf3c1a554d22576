use Rattle.std.proofs.Common.{length, refl}
use Rattle.std.proofs.lemmas.Option.{slice_get_read}
use Rattle.list_laws.proofs.Members.{has_at}
use Rattle.rr_places.proofs.tile_names.ports_of_all.Goals as goal

pub new-requires : goal.new-requires
new-requires c =
    let tiles = c.args.tiles.now in
    c.requires c.tile-item.result
    (has_at tiles c.loop-tile.tile-index c.tile-item.result
    (slice_get_read tiles (length tiles) c.loop-tile.tile-index c.tile-item.result refl c.loop-tile-test.true c.tile-item.is))
