-- The distances of the columns that were passed, and a bound of these.
use Rattle.std.proofs.Common.{◌≡◌, ◌≤◌, map, take}
use Rattle.std.specs.List.{All, sum_by}
use Rattle.anneal_placer.specs.Rects.{column_away}
use Rattle.anneal_placer.proofs.draw.Draw.of.Given as goal

abbrev pub invariant-loop-column : goal.invariant-loop-column
invariant-loop-column l = record {
  aways : l.aways.items ≡ map (λ x. sum_by (column_away x) l.pull.rects.items) (take l.column-index l.columns);
  nearest : All (λ away. l.nearest ≤ away) l.aways.items;
}
