use Rattle.std.proofs.Common.{◌≡◌, take}
use Rattle.rr_tables.specs.Roots.{roots_of as all_roots}
use Rattle.rr_tables.proofs.roots.roots_of.Given as goal

abbrev pub invariant-loop-place : goal.invariant-loop-place
invariant-loop-place l = l.roots.items ≡ all_roots l.tiles l.types (take l.place-index l.places)
