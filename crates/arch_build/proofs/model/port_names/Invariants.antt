use Rattle.std.proofs.Common.{◌≡◌, ◌++◌, drop}
use Rattle.std.specs.List.{flat_map}
use Rattle.arch_build.specs.Said.{within, said_port_name}
use Rattle.arch_build.proofs.model.port_names.Given as goal

-- what was gathered, and what is still to come, is all
abbrev pub invariant-loop-elem : goal.invariant-loop-elem
invariant-loop-elem l = l.names ++ flat_map (within l.list said_port_name) (drop l.elem-index l.elem-items) ≡ flat_map (within l.list said_port_name) l.elem-items
