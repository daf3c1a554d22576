use Rattle.std.proofs.Common.{◌∙◌, ap, Some, get_or}
use Rattle.std.proofs.lemmas.Option.{slice_get-get_or}
use Rattle.list_laws.proofs.Members.{has_at}
use Rattle.first_try.proofs.Edges.{same_edge}
use Rattle.first_try.proofs.decide.has_edge.Goals as goal

pub returns-then-eq : goal.returns-then-eq
returns-then-eq c =
    has_at c.args.edges.now c.loop-one.one-index c.args.edge
    (slice_get-get_or c.args.edges.now c.loop-one.one-index (record { 0 = 0 }) c.loop-one-test.true ∙ ap Some (same_edge (get_or c.args.edges.now c.loop-one.one-index (record { 0 = 0 })) c.args.edge c.if-eq.ensures))
