use Rattle.std.proofs.Common.{map}
use Rattle.mode_edges.specs.Scopes.{places_in}
use Rattle.mode_edges.proofs.Indexes.{IsIndexTo}
use Rattle.mode_edges.proofs.index.index_ports.Given as goal

abbrev pub invariant-loop-place : goal.invariant-loop-place
invariant-loop-place l = IsIndexTo (map (λ p. p.name) l.ports) l.place (places_in l.index)
