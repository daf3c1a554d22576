-- Nets of blocks, no more than were asked for.
use Rattle.std.proofs.Common.{◌≤◌, ◌-◌, map, vec_len}
use Rattle.std.specs.Vec.{vec_items}
use Rattle.anneal_placer.specs.Task.{NameBlocks}
use Rattle.anneal_bench.proofs.task.nets.Given as goal

abbrev pub invariant-nets : goal.invariant-nets
invariant-nets l = record { named : NameBlocks (map vec_items l.nets.items) l.blocks; few : vec_len l.nets ≤ l.count }

abbrev pub decreases-nets : goal.decreases-nets
decreases-nets l = l.count - vec_len l.nets
