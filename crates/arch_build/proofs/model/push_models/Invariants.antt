use Rattle.std.proofs.Common.{◌≡◌, ◌++◌, drop}
use Rattle.std.specs.List.{flat_map}
use Rattle.arch_build.specs.Said.{said_model}
use Rattle.arch_build.proofs.model.push_models.Given as goal

-- what was gathered, and what is still to come, is all
abbrev pub invariant-loop-elem : goal.invariant-loop-elem
invariant-loop-elem l = l.models ++ flat_map said_model (drop l.elem-index l.elem-items) ≡ l.initial.models ++ flat_map said_model l.elem-items
