-- The order of sites a level at a time, as code goes down: so many levels deep.
use Rattle.std.specs.Prelude.{◌++◌, ℕ, zero, suc, List, [], map, flat_map, length}
use Rattle.vtr_base.specs.Lists.{up_from}
use Rattle.pb_expand.specs.Graph.{Graph}
use Rattle.prog_map.specs.declared.choice.LSite.{LSite}
use Rattle.prog_map.specs.Leaves.{kind_at}
use Rattle.prog_map.specs.Order.{kids, first_edges, end_site, own_sites, count_of}

-- the sites in a mode of an instance, where `under` gives those of the instances in it
abbrev pub mode_sites : Graph → (ℕ → List LSite) → ℕ → ℕ → List LSite
mode_sites g under pb mode = map (end_site g mode) (first_edges g pb mode) ++ flat_map under (kids g pb mode)

-- the sites of an instance and of those below it, so many levels deep
abbrev pub sites_under : Graph → ℕ → ℕ → List LSite
sites_under g zero pb = []
sites_under g (suc levels) pb =
    own_sites pb (kind_at g pb) ++ flat_map (λ mode. mode_sites g (λ kid. sites_under g levels kid) pb mode) (up_from 0 (count_of (kind_at g pb)))

-- with as many levels as instances
abbrev pub level_order : Graph → List LSite
level_order g = sites_under g (length g.instances) 0
