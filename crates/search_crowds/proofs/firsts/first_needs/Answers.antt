use Rattle.std.proofs.Common.{◌+◌, ℕ, List, Vec, Global, length, sym, ap, subst, ◌∙◌, arith}
use Rattle.task_types.specs.declared.task.Need.{Need}
use Rattle.search_crowds.proofs.Taking.{AreFirstsSoFar, next_taken, next_passed, firsts_all}
use Rattle.search_crowds.proofs.firsts.first_needs.Goals as goal
use Rattle.search_crowds.proofs.firsts.first_needs.Goals.{then-takes_net+in_ok-push, else-takes_net}

pub loop-number-preserved : goal.loop-number-preserved
loop-number-preserved c = elim c.if-takes_net.branch [
  | then-takes_net+in_ok-push w ↦ (
      let is = ap (λ (v : Vec ℕ Global). v.items) w.firsts-is ∙ w.in_ok-push.ensures.items in
      let taken = rw w.if-takes_net.true at c.takes_net.ensures.taken in
      subst (λ (l : List ℕ). AreFirstsSoFar c.args.task.now (c.loop-number.number + 1) l c.takes_net.new.nets) (sym is)
      (next_taken c.args.task.now c.as_slice-need-items.result.now c.loop-number.number c.loop-number.firsts.items c.loop-number.nets c.takes_net.new.nets _ c.as_slice-need-items.ensures c.loop-number-test.true
      c.loop-number.invariant taken))
  | else-takes_net w ↦ (
      let is = ap (λ (v : Vec ℕ Global). v.items) w.firsts-is in
      let passed = rw w.if-takes_net.false at c.takes_net.ensures.taken in
      subst (λ (l : List ℕ). AreFirstsSoFar c.args.task.now (c.loop-number.number + 1) l c.takes_net.new.nets) (sym is)
      (next_passed c.args.task.now c.as_slice-need-items.result.now c.loop-number.number c.loop-number.firsts.items c.loop-number.nets c.takes_net.new.nets _ c.as_slice-need-items.ensures c.loop-number-test.true
      c.loop-number.invariant passed))
]

pub returns-clause-firsts : goal.returns-clause-firsts
returns-clause-firsts c = λ made. (
    let long = ap (λ (l : List Need). length l) c.as_slice-need-items.ensures in
    firsts_all c.args.task.now made c.loop-number.number c.loop-number.firsts.items c.loop-number.nets (omega (arith, c.loop-number-test.false, long)) c.loop-number.invariant)
