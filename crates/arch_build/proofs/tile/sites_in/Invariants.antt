use Rattle.std.proofs.Common.{◌≡◌, ◌++◌, codes, drop}
use Rattle.std.specs.List.{flat_map}
use Rattle.arch_build.specs.Said.{within, said_site}
use Rattle.arch_build.proofs.tile.sites_in.Given as goal

-- what was gathered, and what is still to come, is all
abbrev pub invariant-loop-elem : goal.invariant-loop-elem
invariant-loop-elem l = l.sites ++ flat_map (within (codes "equivalent_sites") (said_site l.blocks)) (drop l.elem-index l.elem-items) ≡ flat_map (within (codes "equivalent_sites") (said_site l.blocks)) l.elem-items
