use Rattle.std.proofs.Common.{◌≡◌, drop}
use Rattle.elem_attrs.specs.Attributes.{value_of}
use Rattle.elem_attrs.proofs.attr.attribute.Given as goal

-- the first of this name is the first in what is left
abbrev pub invariant-loop-attr : goal.invariant-loop-attr
invariant-loop-attr l = value_of (drop l.attr-index l.attr-items) l.name ≡ value_of l.attr-items l.name
