use Rattle.std.proofs.Common.{◌≡◌, ◌++◌, drop}
use Rattle.std.specs.List.{flat_map}
use Rattle.arch_build.specs.Said.{said_port_name}
use Rattle.arch_build.proofs.model.push_port_names.Given as goal

-- what was gathered, and what is still to come, is all
abbrev pub invariant-loop-port : goal.invariant-loop-port
invariant-loop-port l = l.names ++ flat_map said_port_name (drop l.port-index l.port-items) ≡ l.initial.names ++ flat_map said_port_name l.port-items
