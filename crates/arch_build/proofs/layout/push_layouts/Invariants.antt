use Rattle.std.proofs.Common.{◌≡◌, ◌++◌, drop}
use Rattle.std.specs.List.{flat_map}
use Rattle.arch_build.specs.Said.{said_layout}
use Rattle.arch_build.proofs.layout.push_layouts.Given as goal

-- what was gathered, and what is still to come, is all
abbrev pub invariant-loop-elem : goal.invariant-loop-elem
invariant-loop-elem l = l.layouts ++ flat_map said_layout (drop l.elem-index l.elem-items) ≡ l.initial.layouts ++ flat_map said_layout l.elem-items
