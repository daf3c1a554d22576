use Rattle.std.proofs.Common.{◌≤◌, length}
use Rattle.prog_map.proofs.BusyModes.{AreKidPairs}
use Rattle.prog_map.proofs.busy.kid_pairs.Given as goal

abbrev pub invariant-loop-pb : goal.invariant-loop-pb
invariant-loop-pb l = (l.pb ≤ length l.graph.instances) × AreKidPairs l.graph l.pb l.pairs.items
