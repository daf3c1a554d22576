-- Pieces of a file, and the one element that they make.
use Rattle.std.specs.Prelude.{ℕ, List, [], ◌∷◌, ◌++◌, flat_map}
use Rattle.vtr_base.specs.declared.place.Place.{Place}
use Rattle.elem_text.specs.declared.elem.Attr.{Attr}
use Rattle.elem_text.specs.declared.elem.Elem.{Elem, roll-Elem}
use Rattle.elem_text.specs.Bytes.{AreAll, is_white}
use Rattle.elem_text.specs.References.{decoded}

-- a start tag, an end tag, an empty tag, a run of text as it stands in the file, or a comment or an
-- instruction, which are passed over
pub data Piece : Type 0 where
  opens : List ℕ → List Attr → Place → Piece
  closes : List ℕ → Piece
  hollow : List ℕ → List Attr → Place → Piece
  run : List ℕ → Piece
  skip : Piece

abbrev pub elem : List ℕ → List Attr → List ℕ → List Elem → Place → Elem
elem name attrs text kids place = roll-Elem (record { name = name; attrs = attrs; text = text; kids = kids; place = place })

-- the text that runs of text stand for, joined
abbrev pub joined : List (List ℕ) → List ℕ
joined runs = flat_map decoded runs

-- between the tags of one element stand these pieces: directly in it these runs of text, and these children
pub data Content : List Piece → List (List ℕ) → List Elem → Type 0 where
  nothing : Content [] [] []
  words : (raw : List ℕ) (ps : List Piece) (runs : List (List ℕ)) (kids : List Elem) →
      Content ps runs kids → Content (run raw ∷ ps) (raw ∷ runs) kids
  passed : (ps : List Piece) (runs : List (List ℕ)) (kids : List Elem) →
      Content ps runs kids → Content (skip ∷ ps) runs kids
  leaf : (n : List ℕ) (a : List Attr) (at : Place) (ps : List Piece) (runs : List (List ℕ)) (kids : List Elem) →
      Content ps runs kids → Content (hollow n a at ∷ ps) runs (elem n a [] [] at ∷ kids)
  node : (n : List ℕ) (a : List Attr) (at : Place) (inner : List Piece) (own : List (List ℕ)) (below : List Elem) (ps : List Piece) (runs : List (List ℕ)) (kids : List Elem) →
      Content inner own below → Content ps runs kids →
      Content (opens n a at ∷ (inner ++ closes n ∷ ps)) runs (elem n a (joined own) below at ∷ kids)

abbrev pub AreWhite : List (List ℕ) → Type 0
AreWhite [] = Unit {0}
AreWhite (raw ∷ runs) = AreAll is_white raw × AreWhite runs

-- a file: one element, and only white space, comments and instructions beside it
pub record IsDocument (ps : List Piece) (e : Elem) : Type 0 where
  pub around : List (List ℕ)
  pub white : AreWhite around
  pub content : Content ps around (e ∷ [])

-- some further pieces make a file of these
pub record Fits (ps : List Piece) : Type 0 where
  pub more : List Piece
  pub root : Elem
  pub document : IsDocument (ps ++ more) root
