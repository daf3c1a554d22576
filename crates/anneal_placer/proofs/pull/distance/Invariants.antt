-- The sum over the rectangles that were passed.
use Rattle.std.proofs.Common.{◌≡◌, ◌≤◌, ◌*◌, ◌^◌, take}
use Rattle.std.specs.List.{sum_by}
use Rattle.anneal_placer.specs.Rects.{away}
use Rattle.anneal_placer.proofs.pull.distance.Given as goal

abbrev pub invariant-loop-rect : goal.invariant-loop-rect
invariant-loop-rect l = record {
  is : l.sum ≡ sum_by (away l.site) (take l.rect-index l.rects);
  small : l.sum ≤ l.rect-index * 2 ^ 34;
}
