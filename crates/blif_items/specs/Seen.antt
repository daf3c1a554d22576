-- What clauses see of elements, of parameters and of the last element.
use Rattle.std.specs.Prelude.{◌≡◌, ℕ, List, [], ◌∷◌, ◌++◌, length}
use Rattle.blif_covers.specs.Covers.{RowSaid, IsTableOf}
use Rattle.blif_covers.specs.Seen.{HoldsRows}
use Rattle.blif_items.specs.declared.elem.Elem.{Elem}
use Rattle.blif_items.specs.declared.elem.Elem.TheVariants.{Lut, Latch, Box}
use Rattle.blif_items.specs.declared.open.Open.{Open}
use Rattle.blif_items.specs.declared.open.Open.TheVariants.{Nothing as OpenNothing, Lut as OpenLut, Latch as OpenLatch, Box as OpenBox}
use Rattle.blif_items.specs.declared.params.Params.{Params}
use Rattle.blif_items.specs.Items.{ElemSaid, is_lut, is_latch, is_cell}
use Rattle.blif_items.specs.Params.{names_of, PutsParam}

-- an element that is whole; its rows say its table
abbrev pub IsElem : ElemSaid → Elem → Type 0
IsElem (is_lut name inputs output rows) (Lut n is o table) = (n ≡ name) × (is ≡ inputs) × (o ≡ output) × IsTableOf (length inputs) rows table
IsElem (is_latch name loaded made control) (Latch n l m c) = (n ≡ name) × (l ≡ loaded) × (m ≡ made) × (c ≡ control)
IsElem (is_cell name model pins params) (Box n m ps qs) = (n ≡ name) × (m ≡ model) × (ps ≡ pins) × (qs ≡ params)
IsElem _ _ = ⊥

abbrev pub AreElems : List ElemSaid → List Elem → Type 0
AreElems [] elems = elems ≡ []
AreElems (e ∷ es) [] = ⊥
AreElems (e ∷ es) (elem ∷ elems) = IsElem e elem × AreElems es elems

pub record HoldsParams (params : List (List ℕ × List ℕ)) (p : Params) : Type 0 where
  pub items : p.items ≡ params
  pub names : p.names ≡ names_of params

-- behind these elements the open one is the last of all, and without elements nothing is open
abbrev pub IsOpen : List ElemSaid → List ElemSaid → Open → Type 0
IsOpen front all OpenNothing = (front ≡ []) × (all ≡ [])
IsOpen front all (OpenLut name inputs output cover) =
    (rows : List RowSaid) × (all ≡ front ++ is_lut name inputs output rows ∷ [])
    × HoldsRows rows cover × (cover.inputs ≡ length inputs)
IsOpen front all (OpenLatch name loaded made control) = all ≡ front ++ is_latch name loaded made control ∷ []
IsOpen front all (OpenBox name model pins params) =
    (ps : List (List ℕ × List ℕ)) × (all ≡ front ++ is_cell name model pins ps ∷ [])
    × HoldsParams ps params

-- a parameter is put, and these are the parameters then
pub record IsPut (ps : List (List ℕ × List ℕ)) (name value : List ℕ) (p : Params) : Type 0 where
  pub new : List (List ℕ × List ℕ)
  pub puts : PutsParam ps name value new
  pub holds : HoldsParams new p
