use Rattle.std.proofs.Common.{◌≡◌, ◌++◌, codes, drop}
use Rattle.std.specs.List.{flat_map}
use Rattle.arch_build.specs.Said.{said_sub_tile}
use Rattle.elem_attrs.specs.Attributes.{attr_of}
use Rattle.arch_build.proofs.tile.push_tile.Given as goal

-- what was gathered, and what is still to come, is all
abbrev pub invariant-loop-kid : goal.invariant-loop-kid
invariant-loop-kid l = l.tiles ++ flat_map (said_sub_tile l.blocks (attr_of l.elem (codes "name"))) (drop l.kid-index l.kid-items) ≡ l.initial.tiles ++ flat_map (said_sub_tile l.blocks (attr_of l.elem (codes "name"))) l.kid-items
