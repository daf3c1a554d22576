-- What every model of a file keeps.
use Rattle.std.proofs.Common.{◌<◌, ◌-◌, ◌^◌, ℕ, List, length, Result, Ok, Err, IfOk}
use Rattle.arch_types.specs.declared.arch.CellModel.{CellModel}
use Rattle.blif_errors.specs.declared.error.BlifError.{BlifError}
use Rattle.blif_lines.specs.Lines.{LineSaid, AreLines}
use Rattle.blif_parts.specs.declared.parts.ModelParts.{ModelParts}
use Rattle.blif_parts.specs.Facts.{IsModel}
use Rattle.blif_parts.specs.Lines.{SayModel}
use Rattle.blif_parts.specs.Models.{ModelSaid, AreParts}
use Rattle.blif_models.specs.Files.{FileSays}

-- what a caller knows of models
abbrev pub KeepAll : Type 0
KeepAll = (models : List CellModel) (bytes : List ℕ) (ls : List LineSaid) (m : ModelSaid) (parts : ModelParts) → length bytes < 2 ^ 32 - 1 → AreLines bytes ls → SayModel models ls m → AreParts m parts → IsModel models parts

pub keeps : KeepAll → (models : List CellModel) (bytes : List ℕ) (r : Result ModelParts BlifError) → length bytes < 2 ^ 32 - 1 → IfOk r (FileSays models bytes) → IfOk r (IsModel models)
keeps all models bytes (Ok parts) short says = all models bytes says.ls says.model parts short says.lines says.say says.parts_are
keeps all models bytes (Err e) short says = says
