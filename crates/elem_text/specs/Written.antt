-- The text that an element is written as.
use Rattle.std.specs.Prelude.{◌≤◌, suc, max, ◌≡◌, ◌==◌, ℕ, if◌then◌else◌, List, [], ◌∷◌, ◌++◌, codes, flat_map}
use Rattle.elem_text.specs.Bytes.{IsName, first_place}
use Rattle.elem_text.specs.Tree.{elem}
use Rattle.elem_text.specs.Grammar.{HasName, Spells}
use Rattle.elem_text.specs.Refusals.{IsTooDeep}
use Rattle.elem_text.specs.declared.elem.Attr.{Attr}
use Rattle.elem_text.specs.declared.elem.Elem.{Elem, out-Elem, Elem', Row_of-Elem, end_of-Elem, more_of-Elem}

-- a byte of text or of a value; '<', '&' and '"' are written as references
abbrev pub escape : ℕ → List ℕ
escape b = if b == 60 then codes "&lt;" else if b == 38 then codes "&amp;" else if b == 34 then codes "&quot;" else b ∷ []

abbrev pub escaped : List ℕ → List ℕ
escaped bytes = flat_map escape bytes

-- a space, the name, and the value in double quotes
abbrev pub attr_text : Attr → List ℕ
attr_text a = 32 ∷ (a.name ++ 61 ∷ 34 ∷ (escaped a.value ++ 34 ∷ []))

-- the start tag, the text, the children with nothing between them, and the end tag
abbrev mutual
  pub text_of : Elem → List ℕ
  text_of (Elem' name attrs text n kids place) =
      60 ∷ (name ++ (flat_map attr_text attrs ++ 62 ∷ (escaped text ++ (texts_of kids ++ 60 ∷ 47 ∷ (name ++ 62 ∷ [])))))

  pub texts_of : {m : _} → Row_of-Elem m → List ℕ
  texts_of end_of-Elem = []
  texts_of (more_of-Elem e rest) = text_of e ++ texts_of rest

-- the parts of that text that surround the children's
abbrev pub start_text : Elem → List ℕ
start_text e = 60 ∷ ((out-Elem e).name ++ (flat_map attr_text (out-Elem e).attrs ++ 62 ∷ escaped (out-Elem e).text))

abbrev pub end_text : Elem → List ℕ
end_text e = 60 ∷ 47 ∷ ((out-Elem e).name ++ 62 ∷ [])

-- each attribute has a name that is one, and that none before it has
abbrev pub HaveOwnNames : List Attr → List Attr → Type 0
HaveOwnNames before [] = Unit {0}
HaveOwnNames before (a ∷ attrs) = IsName a.name × (HasName before a.name → ⊥) × HaveOwnNames (before ++ a ∷ []) attrs

-- the names in the element and below are names, and those of the attributes of one element differ
abbrev mutual
  pub HasNames : Elem → Type 0
  HasNames (Elem' name attrs text n kids place) = IsName name × HaveOwnNames [] attrs × HaveNames kids

  pub HaveNames : {m : _} → Row_of-Elem m → Type 0
  HaveNames end_of-Elem = Unit {0}
  HaveNames (more_of-Elem e rest) = HasNames e × HaveNames rest

-- how many levels deep an element is
abbrev mutual
  pub depth : Elem → ℕ
  depth (Elem' name attrs text n kids place) = suc (depth_below kids)

  pub depth_below : {m : _} → Row_of-Elem m → ℕ
  depth_below end_of-Elem = 0
  depth_below (more_of-Elem e rest) = max (depth e) (depth_below rest)

-- the element with one and the same place at each level
abbrev mutual
  pub bare : Elem → Elem
  bare (Elem' name attrs text n kids place) = elem name attrs text (all_bare kids) first_place

  pub all_bare : {m : _} → Row_of-Elem m → List Elem
  all_bare end_of-Elem = []
  all_bare (more_of-Elem e rest) = bare e ∷ all_bare rest

-- a front of the text was appended to the old bytes
pub record IsPart (old text new : List ℕ) : Type 0 where
  pub front : List ℕ
  pub rest : List ℕ
  pub whole : text ≡ front ++ rest
  pub appended : new ≡ old ++ front

-- the text spells an element that is this one but for its places, and nothing in it is too deep
pub record IsReadAs (text : List ℕ) (e : Elem) : Type 0 where
  pub read : Elem
  pub spelled : Spells text read
  pub same : bare read ≡ bare e
  pub shallow : IsTooDeep text → ⊥

-- what an element has to meet for its text to read back: its names are names, the names of the
-- attributes of one element differ, and it is at most 64 levels deep
pub record IsWritable (e : Elem) : Type 0 where
  pub names : HasNames e
  pub depth : depth e ≤ 64
