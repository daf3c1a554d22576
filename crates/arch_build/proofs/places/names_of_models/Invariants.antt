use Rattle.std.proofs.Common.{◌≡◌, take, map}
use Rattle.arch_build.proofs.places.names_of_models.Given as goal

-- what was gathered, and what is still to come, is all
abbrev pub invariant-loop-model : goal.invariant-loop-model
invariant-loop-model l = map (λ n. n.now) l.names.items ≡ map (λ m. m.name) (take l.model-index l.models)
