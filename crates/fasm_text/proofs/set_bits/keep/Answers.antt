use Rattle.std.proofs.Common.{sym, subst}
use Rattle.fasm_text.specs.Kept.{AreInside}
use Rattle.fasm_text.proofs.Keeping.{keeps_on, keeps_off}
use Rattle.fasm_text.proofs.set_bits.keep.Goals as goal
use Rattle.fasm_text.proofs.set_bits.keep.Goals.{then-on+in_ok-push, else-on}

pub returns-in_err-push-clause-inside : goal.returns-in_err-push-clause-inside
returns-in_err-push-clause-inside c =
    λ count low inside. subst (AreInside count) (sym c.in_err-push.ensures.items) (c.loop-place.invariant.inside count low inside)

pub loop-place-preserved : goal.loop-place-preserved
loop-place-preserved c =
    elim c.if-on.branch [
      | then-on+in_ok-push w ↦
          rw w.set-is (keeps_on c.args.start c.args.end c.args.lo c.loop-place.place c.args.bits.now c.args.set.now.items c.loop-place.set.items w.push.new.self.items
          c.requires.order c.loop-place-test.true w.if-on.true w.in_ok-push.ensures.items c.loop-place.invariant)
      | else-on w ↦
          rw w.set-is (keeps_off c.args.start c.args.end c.args.lo c.loop-place.place c.args.bits.now c.args.set.now.items c.loop-place.set.items
          c.loop-place-test.true w.if-on.false c.loop-place.invariant)
    ]
