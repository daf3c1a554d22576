-- One more block, or the one that is left out.
use Rattle.std.proofs.Common.{◌∙◌, [], ◌∷◌, ap, get_or, map, take}
use Rattle.std.proofs.lemmas.List.{map-append}
use Rattle.anneal_placer.specs.Cost.{column, row}
use Rattle.anneal_placer.specs.Rects.{without}
use Rattle.anneal_placer.proofs.Members.{without_more, without_past}
use Rattle.anneal_placer.proofs.rect.rect_without.Goals as goal
use Rattle.anneal_placer.proofs.rect.rect_without.Goals.{then-other-block, else-other-block}

pub loop-other-preserved : goal.loop-other-preserved
loop-other-preserved c =
    elim c.if-other-block.branch [
      | then-other-block w ↦
          (let kept = without_more c.args.block c.args.net.now c.loop-other.other-index c.loop-other-test.true w.if-other-block.true in
          let before = without c.args.block (take c.loop-other.other-index c.args.net.now) in
          let last = get_or c.args.net.now c.loop-other.other-index 0 in
          let f = column c.args.sites.now c.args.places.now in
          let g = row c.args.sites.now c.args.places.now in
          rw (ap (map f) kept ∙ map-append f before (last ∷ []), ap (map g) kept ∙ map-append g before (last ∷ []), w.rect-is)
          (w.joined-rect.ensures _ _ c.loop-other.invariant))
      | else-other-block w ↦
          (let past = without_past c.args.block c.args.net.now c.loop-other.other-index c.loop-other-test.true w.if-other-block.false in
          rw (past, w.rect-is) c.loop-other.invariant)
    ]
