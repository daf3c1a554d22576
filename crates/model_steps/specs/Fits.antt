-- What holds of each element of a model.
use Rattle.std.specs.Prelude.{◌≡◌, ◌≤◌, ◌<◌, ◌+◌, ◌^◌, ◌↔◌, ℕ, IsTrue, List, [], ◌∷◌, Some, codes, map, length, slice_get, if◌then◌else◌}
use Rattle.std.specs.List.{All}
use Rattle.vtr_base.specs.Lists.{Has}
use Rattle.list_laws.specs.Orders.{Once}
use Rattle.arch_types.specs.declared.arch.CellModel.{CellModel}
use Rattle.net_types.specs.Words.{IsWord}
use Rattle.net_types.specs.Atoms.{IsParam}
use Rattle.blif_items.specs.declared.elem.PinAt.{PinAt}
use Rattle.blif_items.specs.Items.{ElemSaid, is_lut, is_latch, is_cell, outs_of}
use Rattle.blif_items.specs.Params.{names_of}
use Rattle.blif_items.specs.Pins.{IsCellName}
use Rattle.blif_pins.specs.Pins.{IsPort, Formal}
use Rattle.blif_parts.specs.Models.{is_cell_elem}

abbrev pub formal_at : PinAt → Formal
formal_at pin = record { port = pin.port; bit = pin.bit }

-- a connected pin of a box: its net isn't called `unconn`
pub record IsPinOf (model : CellModel) (nets : List (List ℕ)) (pin : PinAt) : Type 0 where
  pub port : IsPort model pin.port
  pub side : IsTrue pin.is_output ↔ Has model.outs pin.port
  pub bit : pin.bit < 2 ^ 32
  pub name : List ℕ
  pub named : slice_get nets pin.net ≡ Some name
  pub free : name ≡ codes "unconn" → ⊥

-- a box, before which so many stand
pub record IsBoxOf (models : List CellModel) (nets : List (List ℕ)) (boxes : ℕ) (name : List ℕ) (number : ℕ) (pins : List PinAt) (params : List (List ℕ × List ℕ)) : Type 0 where
  pub model : CellModel
  pub there : slice_get models number ≡ Some model
  pub word : IsWord model.name
  pub each_pin : All (IsPinOf model nets) pins
  pub once : Once (map formal_at pins)
  pub named : IsCellName nets boxes (outs_of pins) name
  pub each_param : All IsParam params
  pub names : Once (names_of params)

abbrev pub FitsElem : List CellModel → List (List ℕ) → ℕ → ElemSaid → Type 0
FitsElem models nets boxes (is_lut name inputs output rows) = (length inputs ≤ 8) × (slice_get nets output ≡ Some name)
FitsElem models nets boxes (is_latch name loaded made control) = slice_get nets made ≡ Some name
FitsElem models nets boxes (is_cell name number pins params) = IsBoxOf models nets boxes name number pins params

-- so many boxes stand before the elements
abbrev pub FitElems : List CellModel → List (List ℕ) → ℕ → List ElemSaid → Type 0
FitElems models nets boxes [] = Unit {0}
FitElems models nets boxes (e ∷ es) =
    FitsElem models nets boxes e × FitElems models nets (boxes + (if is_cell_elem e then 1 else 0)) es
