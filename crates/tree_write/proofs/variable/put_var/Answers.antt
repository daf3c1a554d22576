use Rattle.tree_write.proofs.Edges.{end_inside, root_inside}
use Rattle.tree_write.proofs.variable.put_var.Goals as goal

pub put_pin-requires : goal.put_pin-requires
put_pin-requires c =
    let is = rw c.in-Edge.is at c.requires in
    end_inside c.args.graph.now c.law.ensures c.in-Edge.pin.0 c.in-Edge.mode is.0 is.1

pub put_mode_into-requires : goal.put_mode_into-requires
put_mode_into-requires c =
    let is = rw c.in-Edge.is at c.requires in
    end_inside c.args.graph.now c.law.ensures c.in-Edge.pin.0 c.in-Edge.mode is.0 is.1

pub put_pin-requires-in-Entry : goal.put_pin-requires-in-Entry
put_pin-requires-in-Entry c =
    let is = rw c.in-Entry.is at c.requires in
    root_inside c.args.graph.now c.in-Entry.pin.0 is.0
