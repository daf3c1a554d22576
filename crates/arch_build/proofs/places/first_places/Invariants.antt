use Rattle.std.proofs.Common.{take, map}
use Rattle.arch_build.specs.NamePlaces.{ArePlaces}
use Rattle.arch_build.proofs.places.first_places.Given as goal

-- what was gathered, and what is still to come, is all
abbrev pub invariant-loop-place : goal.invariant-loop-place
invariant-loop-place l = ArePlaces (take l.place (map (λ n. n.now) l.names)) l.first
