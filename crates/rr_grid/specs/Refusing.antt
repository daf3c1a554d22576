-- Why `grid_loc` elements are refused (VPR's routing graph files).
use Rattle.std.specs.Prelude.{◌≡◌, ◌⊎◌, ◌<◌, ℕ, Bool, true, false, List, Some, slice_get}
use Rattle.elem_text.specs.declared.elem.Elem.{Elem, out-Elem}
use Rattle.rr_items.specs.declared.grid.GridFault.{GridFault}
use Rattle.rr_items.specs.declared.grid.GridFault.TheVariants.{Layer as OtherLayer, Number}
use Rattle.rr_items.specs.declared.grid.GridPlace.{GridPlace}
use Rattle.rr_items.specs.Grid.{IsFault}
use Rattle.vtr_base.specs.declared.place.Place.{Place}
use Rattle.rr_grid.specs.declared.error.GridError.{GridError}
use Rattle.rr_grid.specs.declared.error.GridError.TheVariants.{UnknownBlock, BadGrid, Layer, BadItem, OutOfMemory}
use Rattle.rr_grid.specs.Saying.{Says, HasRootAmong, IsRight}

-- the item of this index says no place, for this reason
pub record SaysNone (es : List Elem) (index : ℕ) (fault : GridFault) : Type 0 where
  pub e : Elem
  pub at : slice_get es index ≡ Some e
  pub fails : IsFault e fault

-- the item says a place of a block type that isn't known
pub record NamesNoType (known : ℕ → Bool) (es : List Elem) (index id : ℕ) : Type 0 where
  pub place : GridPlace
  pub said : Says es index place
  pub unknown : known place.block_type ≡ false
  pub told : id ≡ place.block_type

-- an item before this index says a place at the same x and y
pub record IsGivenBefore (es : List Elem) (index : ℕ) (place : GridPlace) : Type 0 where
  pub earlier : ℕ
  pub other : GridPlace
  pub low : earlier < index
  pub said : Says es earlier other
  pub x_is : other.x ≡ place.x
  pub y_is : other.y ≡ place.y

-- the item says a place of a known block type that was given before or lacks its root
pub record IsMisplaced (known : ℕ → Bool) (es : List Elem) (index x y : ℕ) : Type 0 where
  pub place : GridPlace
  pub said : Says es index place
  pub has_type : known place.block_type ≡ true
  pub wrong : IsGivenBefore es index place ⊎ (HasRootAmong es place → ⊥)
  pub told_x : x ≡ place.x
  pub told_y : y ≡ place.y

-- the item says no place, and the error tells the place of its element in the file
pub record TellsItem (es : List Elem) (index : ℕ) (place : Place) : Type 0 where
  pub none : SaysNone es index Number
  pub told : place ≡ (out-Elem none.e).place

-- the item of this index fails in this way
abbrev pub Fails : (ℕ → Bool) → List Elem → ℕ → GridError → Type 0
Fails known es index (UnknownBlock id) = NamesNoType known es index id
Fails known es index (BadGrid x y) = IsMisplaced known es index x y
Fails known es index Layer = SaysNone es index OtherLayer
Fails known es index (BadItem place) = TellsItem es index place
Fails known es index OutOfMemory = ⊥

-- one item fails in this way, and all before it are right
pub record IsRefused (known : ℕ → Bool) (es : List Elem) (error : GridError) : Type 0 where
  pub index : ℕ
  pub earlier : (k : ℕ) → k < index → (place : GridPlace) × IsRight known es k place
  pub fails : Fails known es index error
