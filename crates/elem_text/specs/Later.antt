-- The names of the attributes of a tag behind the first few, as a set.
use Rattle.std.specs.Prelude.{◌≡◌, ℕ, true, List, drop}
use Rattle.std.specs.Borrow.{Bor}
use Rattle.std.specs.declared.cmp.Ordering.{Ordering}
use Rattle.std.specs.Ordering.{nat_cmp}
use Rattle.std.specs.Cmp.Lexicographic.{slice_cmp}
use Rattle.std.specs.BTreeSet.{BTreeSet, contains}
use Rattle.elem_text.specs.declared.elem.Attr.{Attr}
use Rattle.elem_text.specs.declared.tag_attrs.RawAttr.{RawAttr}
use Rattle.elem_text.specs.References.{decoded}
use Rattle.elem_text.specs.Grammar.{HasName}

-- the attribute that one in the file is
abbrev pub attr_of : RawAttr → Attr
attr_of r = record { name = r.name.now; value = decoded r.raw.now }

-- the order of names in the set
abbrev pub by_bytes : Bor (List ℕ) → Bor (List ℕ) → Ordering
by_bytes x y = slice_cmp nat_cmp x.now y.now

-- the set has the names of these attributes and no others
pub record HasExactly (attrs : List Attr) (names : BTreeSet (Bor (List ℕ))) : Type 0 where
  pub all : (q : Bor (List ℕ)) → HasName attrs q.now → contains by_bytes names q ≡ true
  pub only : (q : Bor (List ℕ)) → contains by_bytes names q ≡ true → HasName attrs q.now

-- the set has the names of the attributes behind the first eight
abbrev pub HasLaterNames : List Attr → BTreeSet (Bor (List ℕ)) → Type 0
HasLaterNames attrs names = HasExactly (drop 8 attrs) names
