-- Children of an element by their names.
use Rattle.std.specs.Prelude.{ℕ, List, Option, filter, find, flat_map}
use Rattle.elem_text.specs.declared.elem.Elem.{Elem, out-Elem}
use Rattle.elem_attrs.specs.Attributes.{has_tag}

-- the first child of this name
abbrev pub first_kid : Elem → List ℕ → Option Elem
first_kid e name = find (λ kid. has_tag kid name) (out-Elem e).kids

-- the children of this name
abbrev pub kids_named : Elem → List ℕ → List Elem
kids_named e name = filter (λ kid. has_tag kid name) (out-Elem e).kids

-- the children of this name of the children of the parents' name
abbrev pub kids_under : Elem → List ℕ → List ℕ → List Elem
kids_under e parents name = flat_map (λ parent. kids_named parent name) (kids_named e parents)
