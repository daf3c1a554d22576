-- The sum over the rectangles that were passed.
use Rattle.std.proofs.Common.{◌≡◌, ◌≤◌, ◌*◌, ◌^◌, take}
use Rattle.std.specs.List.{sum_by}
use Rattle.anneal_placer.specs.Rects.{column_away}
use Rattle.anneal_placer.proofs.pull.Pull.column_away.Given as goal

abbrev pub invariant-loop-rect : goal.invariant-loop-rect
invariant-loop-rect l = record {
  is : l.sum ≡ sum_by (column_away l.x) (take l.rect-index l.self.rects.items);
  small : l.sum ≤ l.rect-index * 2 ^ 33;
}
