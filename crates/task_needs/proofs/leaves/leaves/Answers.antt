use Rattle.std.proofs.Common.{◌+◌, None, false, List, sym, ap, ◌∙◌, subst}
use Rattle.std.proofs.lemmas.Bool.{false≢true}
use Rattle.task_needs.proofs.Leaving.{LeaveBefore, leave_more, leave_same, leave_all, net_there}
use Rattle.task_types.specs.declared.task.Need.{Need}
use Rattle.task_needs.proofs.leaves.leaves.Goals as goal
use Rattle.task_needs.proofs.leaves.leaves.Goals.{then-is_some+in_ok-push, else-is_some}

pub loop-place-preserved : goal.loop-place-preserved
loop-place-preserved c =
    let at = net_there c.args.nets.now c.loop-place.place (record { net = 0; maker = None; leaves = false }) c.loop-place-test.true in
    elim c.if-is_some.branch [
      | then-is_some+in_ok-push w ↦
          (subst (λ (l : List Need). LeaveBefore c.args.nets.now (c.loop-place.place + 1) l) (sym (ap (λ v. v.items) w.needs-is))
          (leave_more c.args.nets.now c.loop-place.place c.loop-place.needs.items c.loop-place.invariant _ at (sym c.is_some.ensures ∙ w.if-is_some.true) w.push.new.self.items w.in_ok-push.ensures.items))
      | else-is_some w ↦
          (subst (λ (l : List Need). LeaveBefore c.args.nets.now (c.loop-place.place + 1) l) (sym (ap (λ v. v.items) w.needs-is))
          (leave_same c.args.nets.now c.loop-place.place c.loop-place.needs.items c.loop-place.invariant _ at (λ some. false≢true (sym w.if-is_some.false ∙ c.is_some.ensures ∙ some))))
    ]

pub returns : goal.returns
returns c = leave_all c.args.nets.now c.loop-place.place c.loop-place.needs.items c.loop-place-test.false c.loop-place.invariant
