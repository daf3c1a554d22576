-- The pins of a box: the words behind its model's name, by the ports of the model (BLIF,
-- "Subcircuits").
use Rattle.std.specs.Prelude.{◌≡◌, ◌⊎◌, ℕ, List, [], ◌∷◌, ◌++◌, map}
use Rattle.vtr_base.specs.Lists.{Has}
use Rattle.arch_types.specs.declared.arch.CellModel.{CellModel}
use Rattle.blif_boxes.specs.Pins.{PinSaid, IsPinWord}

-- the model has a port of this name
abbrev pub IsPort : CellModel → List ℕ → Type 0
IsPort model name = Has model.outs name ⊎ Has model.ins name

-- a bit of a port by its name
pub record Formal : Type 0 where
  pub port : List ℕ
  pub bit : ℕ

abbrev pub formal : PinSaid → Formal
formal p = record { port = p.port; bit = p.bit }

-- the word says a pin at a bit of a port, and none of the pins before it is at that bit
pub record IsNextPin (model : CellModel) (before : List PinSaid) (word : List ℕ) (p : PinSaid) : Type 0 where
  pub says : IsPinWord word p
  pub port : IsPort model p.port
  pub new : Has (map formal before) (formal p) → ⊥

-- behind pins that are read the words say the others
abbrev pub AreNextPins : CellModel → List PinSaid → List (List ℕ) → List PinSaid → Type 0
AreNextPins model before [] all = all ≡ before
AreNextPins model before (word ∷ words) all =
    (p : PinSaid) × IsNextPin model before word p × AreNextPins model (before ++ p ∷ []) words all

-- the words say these pins: a bit of a port in each, and none twice
abbrev pub ArePins : CellModel → List (List ℕ) → List PinSaid → Type 0
ArePins model words pins = AreNextPins model [] words pins
