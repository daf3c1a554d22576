-- Lines say one model, or are refused in one way.
use Rattle.std.specs.Prelude.{◌≡◌, List}
use Rattle.vtr_base.specs.declared.place.Place.{Place}
use Rattle.arch_types.specs.declared.arch.CellModel.{CellModel}
use Rattle.blif_lines.specs.Lines.{LineSaid}
use Rattle.blif_errors.specs.declared.error.BlifError.{BlifError}
use Rattle.blif_parts.specs.declared.parts.ModelParts.{ModelParts}
use Rattle.blif_parts.specs.Models.{ModelSaid, AreParts}
use Rattle.blif_parts.specs.Lines.{SayModel, SayNoModel}

abbrev pub HasOneModel : Type 0
HasOneModel = (models : List CellModel) (ls : List LineSaid) (m n : ModelSaid) → SayModel models ls m → SayModel models ls n → m ≡ n

abbrev pub HasOneRefusal : Type 0
HasOneRefusal = (models : List CellModel) (ls : List LineSaid) (end : Place) (e f : BlifError) → SayNoModel models ls end e → SayNoModel models ls end f → e ≡ f

abbrev pub NeverBoth : Type 0
NeverBoth = (models : List CellModel) (ls : List LineSaid) (end : Place) (m : ModelSaid) (e : BlifError) → SayModel models ls m → SayNoModel models ls end e → ⊥

abbrev pub HasOneParts : Type 0
HasOneParts = (m : ModelSaid) (p q : ModelParts) → AreParts m p → AreParts m q → p ≡ q
