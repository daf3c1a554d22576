use Rattle.std.proofs.Common.{sym}
use Rattle.rr_items.proofs.nodes.read_node.Goals as goal

pub returns-then-not-is_on_ground-clause-fault : goal.returns-then-not-is_on_ground-clause-fault
returns-then-not-is_on_ground-clause-fault c = (
  c.in-Some-node_at.node,
  record { loc = c.in-Some.loc.now; first = sym c.in-Some.ensures; says = c.in-Some-node_at.ensures },
  c.if-not-is_on_ground.ensures,
)

pub returns-clause-ok : goal.returns-clause-ok
returns-clause-ok c = record {
  says = record { loc = c.in-Some.loc.now; first = sym c.in-Some.ensures; says = c.in-Some-node_at.ensures };
  ground = c.if-not-is_on_ground.ensures;
}
