use Rattle.std.specs.Prelude.{◌≡◌, ◌≤◌, filter, length}
use Rattle.vtr_base.specs.Lists.{up_from}
use Rattle.task_types.specs.Options.{may_hold}
use Rattle.task_options.proofs.count.atoms_left.Given as goal

abbrev pub invariant-loop-atom : goal.invariant-loop-atom
invariant-loop-atom l = (l.count ≤ l.atom) × (l.count ≡ length (filter (may_hold l.task l.trail.made l.leaf.0) (up_from 0 l.atom)))
