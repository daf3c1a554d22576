-- What every element holds that a file spells: its texts are UTF-8, and it has no more elements
-- than the file has bytes.
use Rattle.std.specs.Prelude.{◌+◌, ℕ, suc, IsUtf8}
use Rattle.std.specs.List.{All}
use Rattle.elem_text.specs.declared.elem.Attr.{Attr}
use Rattle.elem_text.specs.declared.elem.Elem.{Elem, Elem', Row_of-Elem, end_of-Elem, more_of-Elem}

pub record IsUtf8Attr (a : Attr) : Type 0 where
  pub name : IsUtf8 a.name
  pub value : IsUtf8 a.value

-- the names, the values and the texts in the element and below are UTF-8
abbrev mutual
  pub IsUtf8Elem : Elem → Type 0
  IsUtf8Elem (Elem' name attrs text n kids place) = IsUtf8 name × All IsUtf8Attr attrs × IsUtf8 text × AreUtf8Elems kids

  pub AreUtf8Elems : {m : _} → Row_of-Elem m → Type 0
  AreUtf8Elems end_of-Elem = Unit {0}
  AreUtf8Elems (more_of-Elem e rest) = IsUtf8Elem e × AreUtf8Elems rest

-- how many elements there are: this one, and those below
abbrev mutual
  pub elements : Elem → ℕ
  elements (Elem' name attrs text n kids place) = suc (elements_below kids)

  pub elements_below : {m : _} → Row_of-Elem m → ℕ
  elements_below end_of-Elem = 0
  elements_below (more_of-Elem e rest) = elements e + elements_below rest
