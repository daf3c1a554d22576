use Rattle.std.proofs.Common.{◌≡◌, take}
use Rattle.arch_types.specs.Models.{model_names}
use Rattle.blif_pins.proofs.models.names_of.Given as goal

abbrev pub invariant-loop-model : goal.invariant-loop-model
invariant-loop-model l = l.names ≡ take l.model-index (model_names l.models)
