use Rattle.std.proofs.Common.{◌≡◌, map, take}
use Rattle.blif_pins.proofs.models.tables_of.Given as goal

abbrev pub invariant-loop-model : goal.invariant-loop-model
invariant-loop-model l = map (λ t. t.model) l.tables.items ≡ take l.model-index l.models
