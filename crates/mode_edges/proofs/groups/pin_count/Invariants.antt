use Rattle.mode_edges.proofs.Counts.{IsCounted}
use Rattle.mode_edges.proofs.groups.pin_count.Given as goal

abbrev pub invariant-loop-group : goal.invariant-loop-group
invariant-loop-group l = IsCounted l.groups l.group-index l.total
