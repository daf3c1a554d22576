use Rattle.std.proofs.Common.{◌≡◌, ◌++◌, drop}
use Rattle.std.specs.List.{flat_map}
use Rattle.arch_build.specs.Said.{said_inter}
use Rattle.arch_build.proofs.inter.push_inters.Given as goal

-- what was gathered, and what is still to come, is all
abbrev pub invariant-loop-inter : goal.invariant-loop-inter
invariant-loop-inter l = l.inters ++ flat_map said_inter (drop l.inter-index l.inter-items) ≡ l.initial.inters ++ flat_map said_inter l.inter-items
