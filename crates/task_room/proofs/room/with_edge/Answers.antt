use Rattle.std.proofs.Common.{◌+◌, length, sym, ap, ◌∙◌}
use Rattle.prog_map.specs.Order.{starts_at}
use Rattle.task_room.proofs.Tallies.{edge_more}
use Rattle.task_room.proofs.room.with_edge.Goals as goal

pub returns-then-begins_with-clause-tally : goal.returns-then-begins_with-clause-tally
returns-then-begins_with-clause-tally c =
    let first = ap (λ xs. starts_at c.args.edge.0 xs) (sym c.edges_into-into.ensures) ∙ sym c.begins_with.ensures ∙ c.if-begins_with.true in
    λ t vars told. edge_more c.args.graph.now t c.args.tally c.and.result c.args.edge.0 c.edge-here.result (1 + length c.edges_into-into.result.now) c.edge-here.ensures.is first
    (c.and.ensures.tally c.args.graph.now t) (ap (λ xs. 1 + length xs) c.edges_into-into.ensures) vars told
