use Rattle.std.proofs.Common.{◌≤◌, length}
use Rattle.prog_text.specs.Table.{AreNamesUpTo}
use Rattle.prog_text.proofs.graph.GraphNames.new.Given as goal

abbrev pub invariant-loop-pb : goal.invariant-loop-pb
invariant-loop-pb l = (l.pb ≤ length l.graph.instances) × AreNamesUpTo l.graph l.pb l.names
