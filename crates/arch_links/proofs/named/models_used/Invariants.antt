use Rattle.std.proofs.Common.{◌≡◌, ◌++◌, codes, drop}
use Rattle.std.specs.List.{flat_map}
use Rattle.arch_build.specs.Said.{within}
use Rattle.arch_links.specs.Links.{nows, block_models}
use Rattle.arch_links.proofs.named.models_used.Given as goal

-- what was gathered, and what is still to come, is all
abbrev pub invariant-loop-list : goal.invariant-loop-list
invariant-loop-list l = nows l.names.items ++ flat_map (within (codes "complexblocklist") block_models) (drop l.list-index l.list-items) ≡ flat_map (within (codes "complexblocklist") block_models) l.list-items
