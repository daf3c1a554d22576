use Rattle.std.proofs.Common.{◌≡◌, ◌++◌, codes, drop}
use Rattle.std.specs.List.{flat_map}
use Rattle.arch_build.specs.Said.{within, said_inter}
use Rattle.arch_build.proofs.inter.inters_in.Given as goal

-- what was gathered, and what is still to come, is all
abbrev pub invariant-loop-elem : goal.invariant-loop-elem
invariant-loop-elem l = l.inters ++ flat_map (within (codes "interconnect") said_inter) (drop l.elem-index l.elem-items) ≡ flat_map (within (codes "interconnect") said_inter) l.elem-items
