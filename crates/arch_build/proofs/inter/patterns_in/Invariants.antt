use Rattle.std.proofs.Common.{◌≡◌, ◌++◌, drop}
use Rattle.std.specs.List.{flat_map}
use Rattle.arch_build.specs.Said.{said_pattern}
use Rattle.arch_build.proofs.inter.patterns_in.Given as goal

-- what was gathered, and what is still to come, is all
abbrev pub invariant-loop-elem : goal.invariant-loop-elem
invariant-loop-elem l = l.patterns ++ flat_map said_pattern (drop l.elem-index l.elem-items) ≡ flat_map said_pattern l.elem-items
