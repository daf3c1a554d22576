use Rattle.std.proofs.Common.{◌<◌, length, sym, ◌∙◌, arith}
use Rattle.task_types.specs.Options.{may_hold}
use Rattle.task_options.proofs.Nexts.{filter_past}
use Rattle.task_options.proofs.occupant.next_atom.Goals as goal

pub loop-atom-preserved : goal.loop-atom-preserved
loop-atom-preserved c =
    let inside : c.loop-atom.atom < length c.args.task.now.atoms = omega (arith, c.loop-atom-test.true, c.len-atom-end.ensures) in
    c.loop-atom.invariant ∙ filter_past (may_hold c.args.task.now c.args.trail.now.made c.args.leaf.0) (length c.args.task.now.atoms) c.loop-atom.atom inside (sym c.may_hold.ensures ∙ c.if-may_hold.false)
