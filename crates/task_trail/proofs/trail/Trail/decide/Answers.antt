use Rattle.std.proofs.Common.{Some, length, arith}
use Rattle.std.specs.Prelude.{reverse}
use Rattle.std.proofs.Math.ListN.{length-set}
use Rattle.std.proofs.lemmas.List.{length-reverse}
use Rattle.task_trail.proofs.Marks.{after_atom, after_pick}
use Rattle.task_trail.proofs.Room.{room_for_one}
use Rattle.task_trail.proofs.trail.Trail.decide.Goals as goal

pub push_reserved-requires : goal.push_reserved-requires
push_reserved-requires c =
    let a = c.self.inside in
    let kept = c.self.invariant in
    let free = rw (← c.self.view_is) at c.requires in
    let less = room_for_one (length a.modes.items) (length a.picks.items) (length a.placed.items) (reverse a.made.items) c.args.decision kept.marked.free free in
    omega (arith, less, kept.room, length-reverse a.made.items, a.made.ok.0)

pub invariant_of-self-in-Atom : goal.invariant_of-self-in-Atom
invariant_of-self-in-Atom c =
    let a = c.self.inside in
    let kept = c.self.invariant in
    let free = rw (← c.self.view_is) at c.requires in
    record {
      marked = after_atom a.made.items c.push_reserved.new.self.items a.modes.items a.occupants.items a.picks.items a.entries.items a.placed.items c.args.decision c.push_reserved.ensures.items
          c.in-Occupant.leaf c.in-Occupant.occupant c.in-Atom.atom c.in-Occupant.is c.in-Atom.is kept.marked free;
      room = omega (arith, kept.room, c.push_reserved.ensures.capacity);
    }

pub invariant_of-self-in-Edge : goal.invariant_of-self-in-Edge
invariant_of-self-in-Edge c =
    let a = c.self.inside in
    let kept = c.self.invariant in
    let free = rw (← c.self.view_is) at c.requires in
    record {
      marked = after_pick a.made.items c.push_reserved.new.self.items a.modes.items a.occupants.items a.picks.items a.entries.items a.placed.items c.args.decision c.push_reserved.ensures.items
          c.in-Edge.pin (record { mode = c.in-Edge.mode; edge = c.in-Edge.edge }) c.in-Edge.is kept.marked free;
      room = omega (arith, kept.room, c.push_reserved.ensures.capacity, length-set a.picks.items c.in-Edge.pin.0 (Some (record { mode = c.in-Edge.mode; edge = c.in-Edge.edge })));
    }
