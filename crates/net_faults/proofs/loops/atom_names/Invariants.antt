use Rattle.std.proofs.Common.{◌≡◌, ◌++◌, drop}
use Rattle.net_faults.specs.Loops.{names_at}
use Rattle.net_faults.proofs.loops.atom_names.Given as goal

abbrev pub invariant-loop-number : goal.invariant-loop-number
invariant-loop-number l = l.names.items ++ names_at l.atoms (drop l.number-index l.numbers) ≡ names_at l.atoms l.numbers
