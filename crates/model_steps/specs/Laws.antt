-- Each line of a model leaves what it keeps.
use Rattle.std.specs.Prelude.{◌+◌, ℕ, List}
use Rattle.arch_types.specs.declared.arch.CellModel.{CellModel}
use Rattle.blif_elems.specs.Statements.{Said}
use Rattle.blif_parts.specs.Models.{ModelSaid, no_model}
use Rattle.blif_parts.specs.Adds.{Adds}
use Rattle.model_words.specs.Plain.{IsPlain}
use Rattle.model_steps.specs.Keeps.{Keeps}

abbrev pub KeepsEmpty : Type 0
KeepsEmpty = (models : List CellModel) → Keeps models 0 no_model

abbrev pub KeepsSteps : Type 0
KeepsSteps = (models : List CellModel) (words limit : ℕ) (m : ModelSaid) (s : Said) (new : ModelSaid) → Keeps models words m → IsPlain limit s → Adds models m s new → Keeps models (words + limit) new
