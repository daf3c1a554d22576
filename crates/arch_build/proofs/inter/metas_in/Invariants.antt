use Rattle.std.proofs.Common.{◌≡◌, ◌++◌, codes, drop}
use Rattle.std.specs.List.{flat_map}
use Rattle.arch_build.specs.Said.{within, said_meta}
use Rattle.arch_build.proofs.inter.metas_in.Given as goal

-- what was gathered, and what is still to come, is all
abbrev pub invariant-loop-elem : goal.invariant-loop-elem
invariant-loop-elem l = l.metas ++ flat_map (within (codes "metadata") said_meta) (drop l.elem-index l.elem-items) ≡ flat_map (within (codes "metadata") said_meta) l.elem-items
