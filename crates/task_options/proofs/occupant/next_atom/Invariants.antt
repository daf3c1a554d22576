use Rattle.std.specs.Prelude.{◌≡◌, ◌-◌, filter, length}
use Rattle.vtr_base.specs.Lists.{up_from}
use Rattle.task_types.specs.Options.{may_hold}
use Rattle.task_options.proofs.occupant.next_atom.Given as goal

abbrev pub invariant-loop-atom : goal.invariant-loop-atom
invariant-loop-atom l =
    filter (may_hold l.task l.trail.made l.leaf.0) (up_from l.fn.from (length l.task.atoms - l.fn.from))
    ≡ filter (may_hold l.task l.trail.made l.leaf.0) (up_from l.atom (length l.task.atoms - l.atom))
