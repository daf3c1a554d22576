-- Elements of a file: their names, attributes and children.
use Rattle.std.specs.Prelude.{◌≡◌, ℕ, Bool, if◌then◌else◌, List, [], ◌∷◌, Option, Some, None}
use Rattle.std.specs.List.{count_by}
use Rattle.std.specs.Str.{bytes_eq}
use Rattle.elem_text.specs.declared.elem.Attr.{Attr}
use Rattle.elem_text.specs.declared.elem.Elem.{Elem, out-Elem}

abbrev pub name_of : Elem → List ℕ
name_of e = (out-Elem e).name

abbrev pub kids_of : Elem → List Elem
kids_of e = (out-Elem e).kids

abbrev pub is_named : List ℕ → Elem → Bool
is_named name e = bytes_eq (name_of e) name

-- how many children have this name
abbrev pub how_many : List ℕ → Elem → ℕ
how_many name e = count_by (is_named name) (kids_of e)

-- the value of the first attribute of this name
abbrev pub value_of : List Attr → List ℕ → Option (List ℕ)
value_of [] name = None
value_of (a ∷ attrs) name = if bytes_eq a.name name then Some a.value else value_of attrs name

-- the value of an element's attribute of this name
abbrev pub attribute : Elem → List ℕ → Option (List ℕ)
attribute e name = value_of (out-Elem e).attrs name

abbrev pub text_or_none : Option (List ℕ) → List ℕ
text_or_none None = []
text_or_none (Some text) = text

-- the same, where an attribute that isn't there counts as an empty one
abbrev pub text_at : Elem → List ℕ → List ℕ
text_at e name = text_or_none (attribute e name)

-- the attribute isn't there
abbrev pub Lacks : Elem → List ℕ → Type 0
Lacks e name = attribute e name ≡ None

-- the attribute is there, and this holds of its value
abbrev pub Holds : Elem → List ℕ → (List ℕ → Type 0) → Type 0
Holds e name P = (text : List ℕ) × (attribute e name ≡ Some text) × P text

-- the attribute is there, and this doesn't hold of its value
abbrev pub HoldsOther : Elem → List ℕ → (List ℕ → Type 0) → Type 0
HoldsOther e name P = (text : List ℕ) × (attribute e name ≡ Some text) × (P text → ⊥)
