use Rattle.std.proofs.Common.{◌≡◌}
use Rattle.search_crowds.specs.Webs.{AddsEdges}
use Rattle.search_crowds.proofs.edges.push_edges.Given as goal

abbrev pub invariant-loop-source : goal.invariant-loop-source
invariant-loop-source l = record {
  edges : AddsEdges l.pin l.sources l.source-index l.fn.reached.items l.reached.items l.fn.edges.items l.edges.items;
  room : l.reached.room ≡ l.fn.reached.room;
}
