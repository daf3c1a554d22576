-- One more block.
use Rattle.anneal_placer.specs.Cost.{column, row}
use Rattle.anneal_placer.proofs.Members.{map_more}
use Rattle.anneal_placer.proofs.rect.rect_of.Goals as goal

pub loop-block-preserved : goal.loop-block-preserved
loop-block-preserved c =
    let xs = map_more (column c.args.sites.now c.args.places.now) c.args.net.now c.loop-block.block-index c.loop-block-test.true in
    let ys = map_more (row c.args.sites.now c.args.places.now) c.args.net.now c.loop-block.block-index c.loop-block-test.true in
    rw (xs, ys) (c.joined-rect.ensures _ _ c.loop-block.invariant)
