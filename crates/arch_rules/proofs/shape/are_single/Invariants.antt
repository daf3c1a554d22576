use Rattle.std.proofs.Common.{◌≡◌, codes}
use Rattle.arch_rules.specs.Elements.{name_of, Holds}
use Rattle.arch_rules.specs.Numbers.{IsOne}
use Rattle.arch_rules.proofs.Loops.{Below}
use Rattle.arch_rules.proofs.shape.are_single.Given as goal

abbrev pub invariant-loop-port : goal.invariant-loop-port
invariant-loop-port l = Below (λ port. name_of port ≡ l.side → Holds port (codes "num_pins") IsOne) l.port-items l.port-index
