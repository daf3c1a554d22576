use Rattle.std.proofs.Common.{◌↔◌, ℕ, List, drop, map}
use Rattle.arch_rules.specs.Rules.{IsFirstLacking}
use Rattle.arch_rules.proofs.rules.first_lacking.Given as goal

-- the first that is lacking is the first in what is left
abbrev pub invariant-loop-name : goal.invariant-loop-name
invariant-loop-name l =
    (name : List ℕ) → IsFirstLacking l.elem (map (λ n. n.now) (drop l.name-index l.names)) name ↔ IsFirstLacking l.elem (map (λ n. n.now) l.names) name
