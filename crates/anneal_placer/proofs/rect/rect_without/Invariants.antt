-- The rectangle of the other blocks that were passed.
use Rattle.std.proofs.Common.{map, take}
use Rattle.anneal_placer.specs.Cost.{column, row}
use Rattle.anneal_placer.specs.Rects.{AreBounds, without}
use Rattle.anneal_placer.proofs.rect.rect_without.Given as goal

abbrev pub invariant-loop-other : goal.invariant-loop-other
invariant-loop-other l =
    AreBounds (map (column l.sites l.places) (without l.block (take l.other-index l.net))) (map (row l.sites l.places) (without l.block (take l.other-index l.net))) l.rect
