use Rattle.std.proofs.Common.{inl, refl}
use Rattle.arch_rules.proofs.walk.is_taken.Goals as goal

pub returns-then-branch-clause-told : goal.returns-then-branch-clause-told
returns-then-branch-clause-told c = λ before knows. (λ is. inl ((c.in_ok-is_second.ensures.told before knows).0 c.if-branch.true), λ taken. refl)
