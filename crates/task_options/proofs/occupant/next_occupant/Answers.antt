use Rattle.std.proofs.Common.{◌+◌, ◌-◌, length, filter}
use Rattle.vtr_base.specs.Lists.{up_from}
use Rattle.task_types.specs.Options.{may_hold}
use Rattle.task_options.proofs.Follow.{after_nobody, after_atom, after_wire}
use Rattle.task_options.proofs.occupant.next_occupant.Goals as goal

pub returns-in-Nobody : goal.returns-in-Nobody
returns-in-Nobody c =
    after_nobody c.args.graph.now c.args.task.now c.args.trail.now.made c.args.leaf.0 c.args.last c.atom_or_wire.result c.in-Nobody.is
    (c.atom_or_wire.ensures (filter (may_hold c.args.task.now c.args.trail.now.made c.args.leaf.0) (up_from 0 (length c.args.task.now.atoms - 0))) c.next_atom.ensures)

pub returns-in-Atom : goal.returns-in-Atom
returns-in-Atom c =
    after_atom c.args.graph.now c.args.task.now c.args.trail.now.made c.args.leaf.0 c.args.last c.in-Atom.atom c.atom_or_wire-in-Atom.result c.in-Atom.is
    (c.atom_or_wire-in-Atom.ensures (filter (may_hold c.args.task.now c.args.trail.now.made c.args.leaf.0) (up_from (c.in-Atom.atom + 1) (length c.args.task.now.atoms - (c.in-Atom.atom + 1)))) c.next_atom-in-Atom.ensures)

pub returns-in-Wire : goal.returns-in-Wire
returns-in-Wire c = after_wire c.args.graph.now c.args.task.now c.args.trail.now.made c.args.leaf.0 c.args.last c.in-Wire.input c.wire_from.result c.in-Wire.is c.wire_from.ensures
