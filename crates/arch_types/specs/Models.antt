-- What every model of an architecture keeps (VTR architecture reference, "Recognized BLIF Models").
use Rattle.std.specs.Prelude.{ℕ, List, map, IsUtf8}
use Rattle.std.specs.List.{All}
use Rattle.arch_types.specs.declared.arch.CellModel.{CellModel}
use Rattle.arch_types.specs.Names.{IsPlainName, AreDifferent}
use Rattle.arch_types.specs.Counts.{IsShort}

-- the name of a model's port
pub record IsPortName (name : List ℕ) : Type 0 where
  pub plain : IsPlainName name
  pub utf8 : IsUtf8 name

-- the names of a model's ports of one side; two may be equal
pub record ArePortNames (names : List (List ℕ)) : Type 0 where
  pub each : All IsPortName names
  pub few : IsShort names

-- a model may have any name
pub record IsModel (model : CellModel) : Type 0 where
  pub utf8 : IsUtf8 model.name
  pub ins : ArePortNames model.ins
  pub outs : ArePortNames model.outs

abbrev pub model_names : List CellModel → List (List ℕ)
model_names models = map (λ m. m.name) models

pub record AreModels (models : List CellModel) : Type 0 where
  pub each : All IsModel models
  pub different : AreDifferent (model_names models)
  pub few : IsShort models
