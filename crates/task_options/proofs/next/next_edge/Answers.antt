use Rattle.task_options.proofs.Nexts.{after_none, after_some, next_above}
use Rattle.task_options.proofs.next.next_edge.Goals as goal

pub returns-in-Some : goal.returns-in-Some
returns-in-Some c =
    after_some c.args.edges.now c.args.last c.in-Some.edge c.edge_at.result c.in-Some.is
    (next_above c.args.edges.now c.in-Some.edge c.place_above.result c.edge_at.result c.requires c.place_above.ensures c.edge_at.ensures)

pub returns-in-None : goal.returns-in-None
returns-in-None c = after_none c.args.edges.now c.args.last c.edge_at-in-None.result c.in-None.is c.edge_at-in-None.ensures
