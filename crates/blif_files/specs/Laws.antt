-- A file says one model, or is refused for one reason.
use Rattle.std.specs.Prelude.{◌≡◌, ℕ, List}
use Rattle.arch_types.specs.declared.arch.CellModel.{CellModel}
use Rattle.blif_errors.specs.declared.error.BlifError.{BlifError}
use Rattle.blif_parts.specs.declared.parts.ModelParts.{ModelParts}
use Rattle.blif_models.specs.Files.{FileIsRefused, FileSays}

abbrev pub HasOneModel : Type 0
HasOneModel = (models : List CellModel) (bytes : List ℕ) (p q : ModelParts) → FileSays models bytes p → FileSays models bytes q → p ≡ q

abbrev pub HasOneRefusal : Type 0
HasOneRefusal = (models : List CellModel) (bytes : List ℕ) (d e : BlifError) → FileIsRefused models bytes d → FileIsRefused models bytes e → d ≡ e

abbrev pub NeverBoth : Type 0
NeverBoth = (models : List CellModel) (bytes : List ℕ) (p : ModelParts) (e : BlifError) → FileSays models bytes p → FileIsRefused models bytes e → ⊥
