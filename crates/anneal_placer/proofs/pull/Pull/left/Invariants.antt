-- What is left behind the rectangles that were passed.
use Rattle.std.proofs.Common.{◌≡◌, ◌-◌, take}
use Rattle.std.specs.List.{sum_by}
use Rattle.anneal_placer.specs.Rects.{row_away}
use Rattle.anneal_placer.proofs.pull.Pull.left.Given as goal

abbrev pub invariant-loop-rect : goal.invariant-loop-rect
invariant-loop-rect l = l.left ≡ l.self.away - sum_by (row_away l.y) (take l.rect-index l.self.rects.items)
