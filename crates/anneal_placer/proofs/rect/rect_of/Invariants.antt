-- The rectangle of the blocks that were passed.
use Rattle.std.proofs.Common.{map, take}
use Rattle.anneal_placer.specs.Cost.{column, row}
use Rattle.anneal_placer.specs.Rects.{AreBounds}
use Rattle.anneal_placer.proofs.rect.rect_of.Given as goal

abbrev pub invariant-loop-block : goal.invariant-loop-block
invariant-loop-block l = AreBounds (map (column l.sites l.places) (take l.block-index l.net)) (map (row l.sites l.places) (take l.block-index l.net)) l.rect
