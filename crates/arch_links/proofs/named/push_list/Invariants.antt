use Rattle.std.proofs.Common.{◌≡◌, ◌++◌, drop}
use Rattle.std.specs.List.{flat_map}
use Rattle.arch_links.specs.Links.{nows, block_models}
use Rattle.arch_links.proofs.named.push_list.Given as goal

-- what was gathered, and what is still to come, is all
abbrev pub invariant-loop-block : goal.invariant-loop-block
invariant-loop-block l = nows l.names.items ++ flat_map block_models (drop l.block-index l.block-items) ≡ nows l.initial.names.items ++ flat_map block_models l.block-items
