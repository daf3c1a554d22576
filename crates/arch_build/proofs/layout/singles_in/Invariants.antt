use Rattle.std.proofs.Common.{◌≡◌, ◌++◌, drop}
use Rattle.std.specs.List.{flat_map}
use Rattle.arch_build.specs.Said.{said_single}
use Rattle.arch_build.proofs.layout.singles_in.Given as goal

-- what was gathered, and what is still to come, is all
abbrev pub invariant-loop-elem : goal.invariant-loop-elem
invariant-loop-elem l = l.singles ++ flat_map said_single (drop l.elem-index l.elem-items) ≡ flat_map said_single l.elem-items
