use Rattle.std.proofs.Common.{◌≡◌, ◌++◌, drop}
use Rattle.std.specs.List.{flat_map}
use Rattle.arch_build.specs.Said.{said_block, said_mode}
use Rattle.arch_build.proofs.block.+blocks.Given as goal

-- what was gathered, and what is still to come, is all
abbrev pub invariant-children_of-loop-elem : goal.invariant-children_of-loop-elem
invariant-children_of-loop-elem l =
    (l.modes ++ flat_map (said_mode l.models) (drop l.elem-index l.elems) ≡ flat_map (said_mode l.models) l.elems)
    × (l.blocks ++ flat_map (said_block l.models) (drop l.elem-index l.elems) ≡ flat_map (said_block l.models) l.elems)
