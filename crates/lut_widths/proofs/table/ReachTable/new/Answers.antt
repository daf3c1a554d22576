use Rattle.std.proofs.Common.{map, take, sym, subst}
use Rattle.lut_widths.specs.Tables.{AreReaches}
use Rattle.lut_widths.proofs.Tabling.{map_taken}
use Rattle.lut_widths.proofs.table.ReachTable.new.Goals as goal

pub loop-kid-preserved : goal.loop-kid-preserved
loop-kid-preserved c =
    subst (λ l. AreReaches l c.add.new.self.names c.add.new.self.reaches.items) (sym (map_taken (λ k. k.now) c.args.kids.now c.loop-kid.kid-index c.kid-item.result c.loop-kid-test.true c.kid-item.is))
    (c.in_ok-add.ensures (map (λ k. k.now) (take c.loop-kid.kid-index c.args.kids.now)) c.loop-kid.invariant)
