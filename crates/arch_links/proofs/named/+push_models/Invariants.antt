use Rattle.std.proofs.Common.{◌≡◌, ◌++◌, drop}
use Rattle.std.specs.List.{flat_map}
use Rattle.arch_links.specs.Links.{nows, models_at}
use Rattle.arch_links.proofs.named.+push_models.Given as goal

-- what was gathered, and what is still to come, is all
abbrev pub invariant-loop-kid : goal.invariant-loop-kid
invariant-loop-kid l = nows l.names.items ++ flat_map models_at (drop l.kid-index l.kid-items) ≡ nows l.initial.names.items ++ flat_map models_at l.kid-items
