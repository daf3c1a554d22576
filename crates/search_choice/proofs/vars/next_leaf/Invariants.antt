use Rattle.std.proofs.Common.{◌<◌, ℕ}
use Rattle.pb_expand.specs.Graph.{pb_ix}
use Rattle.task_types.specs.declared.tree.Var.TheVariants as var
use Rattle.search_choice.specs.Opens.{IsOpenVar}
use Rattle.search_choice.proofs.vars.next_leaf.Given as goal

abbrev pub invariant-loop-pb : goal.invariant-loop-pb
invariant-loop-pb l = (k : ℕ) → k < l.pb → IsOpenVar l.graph l.task l.trail.made (var.Occupant (pb_ix k)) → ⊥
