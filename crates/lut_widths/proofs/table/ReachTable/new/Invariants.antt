use Rattle.std.proofs.Common.{map, take}
use Rattle.lut_widths.specs.Tables.{AreReaches}
use Rattle.lut_widths.proofs.table.ReachTable.new.Given as goal

abbrev pub invariant-loop-kid : goal.invariant-loop-kid
invariant-loop-kid l = AreReaches (map (λ k. k.now) (take l.kid-index l.kids)) l.table.names l.table.reaches.items
