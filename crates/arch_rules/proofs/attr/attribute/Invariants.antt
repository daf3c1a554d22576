use Rattle.std.proofs.Common.{◌≡◌, drop}
use Rattle.arch_rules.specs.Elements.{value_of}
use Rattle.arch_rules.proofs.attr.attribute.Given as goal

-- the first of this name is the first in what is left
abbrev pub invariant-loop-attr : goal.invariant-loop-attr
invariant-loop-attr l = value_of (drop l.attr-index l.attr-items) l.name ≡ value_of l.attr-items l.name
