-- The locations of one root, by their subs.
use Rattle.std.specs.Prelude.{ℕ, List, map}
use Rattle.vtr_base.specs.Lists.{up_from}
use Rattle.rr_locs.specs.declared.roots.TileRoot.{TileRoot}
use Rattle.rr_locs.specs.declared.roots.LocAt.{LocAt}

abbrev pub loc_of : TileRoot → ℕ → LocAt
loc_of root sub = record { x = root.x; y = root.y; sub = sub; tile = root.tile }

abbrev pub locs_of : TileRoot → List LocAt
locs_of root = map (loc_of root) (up_from 0 root.capacity)
