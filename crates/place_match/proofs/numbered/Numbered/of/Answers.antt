-- One more entry has the number of its kind.
use Rattle.std.proofs.Common.{get_or, refl}
use Rattle.place_match.proofs.KindSteps.{numbered_more}
use Rattle.place_match.proofs.numbered.Numbered.of.Goals as goal

pub loop-kind-preserved : goal.loop-kind-preserved
loop-kind-preserved c =
    let stored = c.in_ok-number.ensures.stored in
    rw c.in_ok-push.ensures.items
    (numbered_more c.args.list.now c.loop-kind.kind-index _ _ _ (get_or c.args.list.now c.loop-kind.kind-index 0) stored.0 c.in_ok-number.number c.loop-kind.invariant
    c.in_ok-number.ensures.keys c.in_ok-number.ensures.unique stored.1 stored.2 refl)
