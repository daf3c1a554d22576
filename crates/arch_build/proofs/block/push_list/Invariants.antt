use Rattle.std.proofs.Common.{◌≡◌, ◌++◌, drop}
use Rattle.std.specs.List.{flat_map}
use Rattle.arch_build.specs.Said.{said_block}
use Rattle.arch_build.proofs.block.push_list.Given as goal

-- what was gathered, and what is still to come, is all
abbrev pub invariant-loop-elem : goal.invariant-loop-elem
invariant-loop-elem l = l.blocks ++ flat_map (said_block l.models) (drop l.elem-index l.elem-items) ≡ l.initial.blocks ++ flat_map (said_block l.models) l.elem-items
