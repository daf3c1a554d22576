-- The ports of a model by name.
use Rattle.std.specs.Prelude.{◌≡◌, ◌<◌, ◌⊎◌, ◌↔◌, ℕ, Bool, List, ◌++◌, Some, IsTrue, slice_get}
use Rattle.vtr_base.specs.Lists.{Has}
use Rattle.list_laws.specs.Orders.{Once}
use Rattle.arch_types.specs.declared.arch.CellModel.{CellModel}
use Rattle.blif_pins.specs.Pins.{IsPort}

-- a model, and the names of its ports, those of outputs first
pub record Ports : Type 0 where
  pub model : CellModel
  pub names : List (List ℕ)
  pub outs : ℕ

-- the names are those of the model's ports, each once, and so many of them are of outputs
pub record Fits (t : Ports) : Type 0 where
  pub once : Once t.names
  pub all : (name : List ℕ) → Has t.names name ↔ IsPort t.model name
  pub outputs : (n : ℕ) (name : List ℕ) → slice_get t.names n ≡ Some name → (n < t.outs) ↔ Has t.model.outs name

-- the name has this number
pub record IsPortAt (t : Ports) (name : List ℕ) (number : ℕ) (is_output : Bool) : Type 0 where
  pub there : slice_get t.names number ≡ Some name
  pub side : IsTrue is_output ↔ Has t.model.outs name

-- the names that aren't there yet come behind the others
pub record AddsNames (old more new : List (List ℕ)) : Type 0 where
  pub added : List (List ℕ)
  pub grown : new ≡ old ++ added
  pub all : (name : List ℕ) → Has new name ↔ (Has old name ⊎ Has more name)
