use Rattle.std.proofs.Common.{◌≡◌, length, vec_len}
use Rattle.sparse_set.specs.Tied.{IsTied}
use Rattle.sparse_set.proofs.set.SparseSet.clear.Given as goal

abbrev pub invariant-loop-number : goal.invariant-loop-number
invariant-loop-number l = IsTied l.self-inside × (length l.self-inside.there.items ≡ l.fn.self.room)

abbrev pub decreases-loop-number : goal.decreases-loop-number
decreases-loop-number l = vec_len l.self-inside.items
