-- Empty lists, and then the lists of the first nets.
use Rattle.std.proofs.Common.{◌≡◌, ℕ, [], get_or, length, map}
use Rattle.std.specs.Vec.{vec_items}
use Rattle.anneal_placer.specs.Search.{AreFirstNets}
use Rattle.anneal_placer.specs.Task.{nets_of}
use Rattle.anneal_placer.proofs.indexed.BlockNets.new.Given as goal

abbrev pub invariant-loop : goal.invariant-loop
invariant-loop l = record {
  each : length l.of.items ≡ l.index;
  empty : (block : ℕ) → get_or (map vec_items l.of.items) block [] ≡ [];
}

abbrev pub invariant-loop-number : goal.invariant-loop-number
invariant-loop-number l = AreFirstNets (nets_of l.task) (map vec_items l.of.items) (length l.task.blocks.items) l.number
