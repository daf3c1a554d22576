-- What a file says.
use Rattle.std.specs.Prelude.{ℕ, List}
use Rattle.vtr_base.specs.declared.place.Place.{Place}
use Rattle.arch_types.specs.declared.arch.CellModel.{CellModel}
use Rattle.elem_text.specs.Bytes.{first_place, place_after}
use Rattle.blif_lines.specs.Lines.{LineSaid, AreLines}
use Rattle.blif_errors.specs.declared.error.BlifError.{BlifError}
use Rattle.blif_parts.specs.declared.parts.ModelParts.{ModelParts}
use Rattle.blif_parts.specs.Lines.{SayModel, SayNoModel}
use Rattle.blif_parts.specs.Models.{ModelSaid, AreParts}

-- the place behind the last byte
abbrev pub end_of : List ℕ → Place
end_of bytes = place_after first_place bytes

-- its lines say a model, and these are the model's parts
pub record FileSays (models : List CellModel) (bytes : List ℕ) (parts : ModelParts) : Type 0 where
  pub ls : List LineSaid
  pub lines : AreLines bytes ls
  pub model : ModelSaid
  pub say : SayModel models ls model
  pub parts_are : AreParts model parts

-- its lines say none, and this is why
pub record FileIsRefused (models : List CellModel) (bytes : List ℕ) (e : BlifError) : Type 0 where
  pub ls : List LineSaid
  pub lines : AreLines bytes ls
  pub refuse : SayNoModel models ls (end_of bytes) e
