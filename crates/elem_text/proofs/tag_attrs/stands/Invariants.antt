use Rattle.std.proofs.Common.{drop}
use Rattle.elem_text.specs.Grammar.{HasName}
use Rattle.elem_text.proofs.tag_attrs.stands.Given as goal

-- an attribute of that name would still be to come
abbrev pub invariant-loop-attr : goal.invariant-loop-attr
invariant-loop-attr l = HasName l.attrs l.name → HasName (drop l.attr-index l.attrs) l.name
