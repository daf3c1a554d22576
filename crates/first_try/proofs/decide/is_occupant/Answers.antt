use Rattle.std.proofs.Common.{sym, subst, nat_lt, arith}
use Rattle.std.proofs.lemmas.Bool.{OnTrue_at, OnTrue_from, ltb-true}
use Rattle.vtr_base.specs.Lists.{Has}
use Rattle.task_types.specs.declared.decision.Occupant.{Occupant}
use Rattle.task_types.specs.Options.{occupants}
use Rattle.first_try.proofs.Options.{of_atom, of_wire}
use Rattle.first_try.proofs.decide.is_occupant.Goals as goal

pub returns-in-Atom : goal.returns-in-Atom
returns-in-Atom c =
    OnTrue_from c.may_hold.result (Has (occupants c.args.graph.now c.args.task.now c.args.trail.now.made c.args.leaf.0) c.args.occupant)
    (λ yes. (
    let both = OnTrue_at yes c.may_hold.ensures in
    subst (λ (o : Occupant). Has (occupants c.args.graph.now c.args.task.now c.args.trail.now.made c.args.leaf.0) o) (sym c.in-Atom.is) (of_atom c.args.graph.now c.args.task.now c.args.trail.now.made c.args.leaf.0 c.in-Atom.atom both.0 both.1)))

pub returns-in-Wire : goal.returns-in-Wire
returns-in-Wire c =
    OnTrue_from (nat_lt c.in-Wire.input c.wires_at.result) (Has (occupants c.args.graph.now c.args.task.now c.args.trail.now.made c.args.leaf.0) c.args.occupant)
    (λ yes. (
    let less = ltb-true c.in-Wire.input c.wires_at.result yes in
    subst (λ (o : Occupant). Has (occupants c.args.graph.now c.args.task.now c.args.trail.now.made c.args.leaf.0) o) (sym c.in-Wire.is) (of_wire c.args.graph.now c.args.task.now c.args.trail.now.made c.args.leaf.0 c.in-Wire.input (omega (arith, less, c.wires_at.ensures.wires)))))
