use Rattle.rr_wires.proofs.WireLists.{AreKeyed}
use Rattle.rr_wires.proofs.tables.lists_by.Given as goal

abbrev pub invariant-loop-number : goal.invariant-loop-number
invariant-loop-number l = AreKeyed l.edges l.end l.number l.pairs.items
