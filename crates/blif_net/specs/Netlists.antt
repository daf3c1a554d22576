-- The netlist that a BLIF file says for an architecture's models, and why a file says none.
use Rattle.std.specs.Prelude.{◌≡◌, ◌⊎◌, ℕ, List}
use Rattle.arch_types.specs.declared.arch.CellModel.{CellModel}
use Rattle.blif_errors.specs.declared.error.BlifError.{BlifError}
use Rattle.net_types.specs.declared.parts.NetlistParts.{NetlistParts}
use Rattle.net_types.specs.Fits.{FitsModels}
use Rattle.net_types.specs.WellFormed.{IsNetlist}
use Rattle.blif_parts.specs.declared.parts.ModelParts.{ModelParts}
use Rattle.blif_parts.specs.Atoms.{net_of}
use Rattle.blif_models.specs.Files.{FileIsRefused, FileSays}
use Rattle.blif_wholes.specs.Wholes.{IsWholeRefused}

-- its lines say a model, whose nets and atoms these are; they keep what every netlist keeps, and
-- each box is of one of the models
pub record SaysNetlist (models : List CellModel) (bytes : List ℕ) (n : NetlistParts) : Type 0 where
  pub parts : ModelParts
  pub says : FileSays models bytes parts
  pub are : n ≡ net_of parts
  pub whole : IsNetlist n
  pub fits : FitsModels models n

-- its lines say a model, which is refused as a whole
pub record WholeIsRefused (models : List CellModel) (bytes : List ℕ) (e : BlifError) : Type 0 where
  pub parts : ModelParts
  pub says : FileSays models bytes parts
  pub refused : IsWholeRefused (net_of parts) e

-- a line is refused, or the end of the file, and else the whole
abbrev pub IsRefused : List CellModel → List ℕ → BlifError → Type 0
IsRefused models bytes e = FileIsRefused models bytes e ⊎ WholeIsRefused models bytes e
