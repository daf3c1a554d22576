use Rattle.std.proofs.Common.{subst}
use Rattle.vtr_base.specs.Lists.{Has}
use Rattle.list_laws.proofs.Members.{each_has}
use Rattle.arch_types.specs.Tiles.{IsTile}
use Rattle.rr_places.proofs.tile_names.TileNames.new.Goals as goal

pub ports_of_all-requires : goal.ports_of_all-requires
ports_of_all-requires c = λ tile has.
    (let each = c.arch.invariant.tiles.each in
    (each_has (IsTile c.arch.inside.blocks) c.arch.inside.tiles each tile (subst (λ l. Has l tile) c.as_slice-tiles.ensures has)).ports)
