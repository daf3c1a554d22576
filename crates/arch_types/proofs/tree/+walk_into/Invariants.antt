use Rattle.std.proofs.Common.{◌≡◌, ◌++◌, map, drop, flat_map}
use Rattle.arch_types.specs.Preorder.{inside_mode, preorder}
use Rattle.arch_types.proofs.tree.+walk_into.Given as goal

-- what was found, and what the modes still to come give
abbrev pub invariant-loop-mode : goal.invariant-loop-mode
invariant-loop-mode l = map (λ r. r.now) l.found.items ++ flat_map inside_mode (drop l.mode-index l.mode-items)
    ≡ map (λ r. r.now) l.initial.found.items ++ flat_map inside_mode l.mode-items

abbrev pub invariant-loop-kid : goal.invariant-loop-kid
invariant-loop-kid l = map (λ r. r.now) l.found.items ++ flat_map preorder (drop l.kid-index l.kid-items)
    ≡ map (λ r. r.now) l.initial.found.items ++ flat_map preorder l.kid-items
