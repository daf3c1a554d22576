use Rattle.std.proofs.Common.{◌≡◌, ◌++◌, codes, drop}
use Rattle.std.specs.List.{flat_map}
use Rattle.arch_build.specs.Said.{within, said_model}
use Rattle.arch_build.proofs.said.models_in.Given as goal

-- what was gathered, and what is still to come, is all
abbrev pub invariant-loop-list : goal.invariant-loop-list
invariant-loop-list l = l.models ++ flat_map (within (codes "models") said_model) (drop l.list-index l.list-items) ≡ flat_map (within (codes "models") said_model) l.list-items
