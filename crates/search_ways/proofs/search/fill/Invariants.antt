use Rattle.std.proofs.Common.{◌≤◌, ◌-◌, length}
use Rattle.search_ways.specs.Traces.{IsFilled}
use Rattle.search_ways.proofs.search.fill.Given as goal

abbrev pub invariant-loop-value : goal.invariant-loop-value
invariant-loop-value l = (length l.fn.from.items ≤ length l.from.items) × (length l.from.items ≤ l.long) × IsFilled l.fn.from.items l.from.items (length l.from.items) l.value

abbrev pub decreases-loop-value : goal.decreases-loop-value
decreases-loop-value l = l.long - length l.from.items
