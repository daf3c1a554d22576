-- One more column.
use Rattle.std.specs.List.{sum_by}
use Rattle.std.proofs.Common.{ℕ}
use Rattle.anneal_placer.specs.Rects.{column_away}
use Rattle.anneal_placer.proofs.Draws.{bound_more, table_more}
use Rattle.anneal_placer.proofs.draw.Draw.of.Goals as goal

pub loop-column-preserved : goal.loop-column-preserved
loop-column-preserved c = record {
  aways = table_more (λ (x : ℕ). sum_by (column_away x) c.in_ok-pull.pull.rects.items) c.args.columns.now c.loop-column.aways.items c.push.new.self.items c.loop-column.column-index c.column_away-away.result
      c.loop-column.invariant.aways c.loop-column-test.true c.column_away-away.ensures c.in_ok-push.ensures.items;
  nearest = bound_more c.loop-column.aways.items c.push.new.self.items c.loop-column.nearest c.min-nearest.result c.column_away-away.result
      c.loop-column.invariant.nearest c.min-nearest.ensures c.in_ok-push.ensures.items;
}
