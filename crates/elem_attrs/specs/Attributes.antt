-- Attributes of an element.
use Rattle.std.specs.Prelude.{◌≡◌, ℕ, Bool, if◌then◌else◌, List, [], ◌∷◌, Option, Some, None}
use Rattle.std.specs.Option.{option_map_or}
use Rattle.std.specs.Str.{bytes_eq}
use Rattle.elem_text.specs.declared.elem.Attr.{Attr}
use Rattle.elem_text.specs.declared.elem.Elem.{Elem, out-Elem}

-- the value of the first attribute of this name
abbrev pub value_of : List Attr → List ℕ → Option (List ℕ)
value_of [] name = None
value_of (a ∷ attrs) name = if bytes_eq a.name name then Some a.value else value_of attrs name

-- the element has an attribute of this name, and the first of them has this value
abbrev pub HasAttribute : Elem → List ℕ → List ℕ → Type 0
HasAttribute e name value = value_of (out-Elem e).attrs name ≡ Some value

-- the element has no attribute of this name
abbrev pub LacksAttribute : Elem → List ℕ → Type 0
LacksAttribute e name = value_of (out-Elem e).attrs name ≡ None

-- the value of the attribute of this name; no bytes where there is none
abbrev pub attr_of : Elem → List ℕ → List ℕ
attr_of e name = option_map_or (λ (value : List ℕ). value) (value_of (out-Elem e).attrs name) []

-- the element has this name
abbrev pub has_tag : Elem → List ℕ → Bool
has_tag e name = bytes_eq (out-Elem e).name name
