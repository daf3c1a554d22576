use Rattle.arch_rules.specs.Rules.{IsWideInput}
use Rattle.arch_rules.proofs.Loops.{Below}
use Rattle.arch_rules.proofs.shape.has_wide_input.Given as goal

abbrev pub invariant-loop-port : goal.invariant-loop-port
invariant-loop-port l = Below (λ port. IsWideInput port → ⊥) l.port-items l.port-index
