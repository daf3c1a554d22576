use Rattle.rr_nodes.specs.Gathering.{gathered_nodes}
use Rattle.rr_nodes.proofs.Steps.{off_ground, settled}
use Rattle.rr_nodes.proofs.one.next_node.Goals as goal

pub returns-else-has : goal.returns-else-has
returns-else-has g c =
    off_ground (gathered_nodes c.args.before.now) c.args.elem.now c.count.result c.told_id-id.result c.read_node.result c.in-Err-Layer.field-0
    c.in-Err-Layer.is c.in-Err-Layer.field-0-is c.told_id-id.ensures c.if-has.ensures c.read_node.ensures.fault

pub returns-else-has-2 : goal.returns-else-has-2
returns-else-has-2 g c =
    rw c.ok_or.ensures.value
    (settled (g.T.PinTable.pin_of c.args.pins.now) (gathered_nodes c.args.before.now) c.args.elem.now c.count.result c.told_id-id.result c.read_node.result c.in-Ok.node
    c.in-Ok.is c.told_id-id.ensures c.if-has-2.ensures c.read_node.ensures.ok c.placed_node.result c.placed_node.ensures)
