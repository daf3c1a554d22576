use Rattle.std.proofs.Common.{◌≡◌, ◌++◌, drop}
use Rattle.std.specs.List.{flat_map}
use Rattle.arch_build.specs.Said.{said_tile}
use Rattle.arch_build.proofs.tile.push_tiles.Given as goal

-- what was gathered, and what is still to come, is all
abbrev pub invariant-loop-elem : goal.invariant-loop-elem
invariant-loop-elem l = l.tiles ++ flat_map (said_tile l.blocks) (drop l.elem-index l.elem-items) ≡ l.initial.tiles ++ flat_map (said_tile l.blocks) l.elem-items
