use Rattle.std.proofs.Common.{Bool, get_or, subst}
use Rattle.task_make.proofs.Listing.{Adds, kept_more}
use Rattle.task_make.proofs.list.listed.Goals as goal

pub loop-place-preserved : goal.loop-place-preserved
loop-place-preserved c =
    kept_more c.args.known.now c.args.atoms.now c.loop-place.listed c.loop-place.place 0 c.if-atoms-gt-MOST_ATOMS.false c.loop-place-test.true c.loop-place.invariant c.add.new.self c.if-number-known.false
    (subst (λ (b : Bool). Adds c.loop-place.listed (get_or c.args.atoms.now c.loop-place.place 0) b c.add.new.self) c.if-not-branch.false c.in_ok-add.ensures.ok)
