use Rattle.std.proofs.Common.{◌≡◌, ◌++◌, codes, drop}
use Rattle.std.specs.List.{flat_map}
use Rattle.arch_build.specs.Said.{within, said_block}
use Rattle.arch_build.proofs.said.blocks_with.Given as goal

-- what was gathered, and what is still to come, is all
abbrev pub invariant-loop-list : goal.invariant-loop-list
invariant-loop-list l = l.blocks ++ flat_map (within (codes "complexblocklist") (said_block l.models)) (drop l.list-index l.list-items) ≡ flat_map (within (codes "complexblocklist") (said_block l.models)) l.list-items
