use Rattle.std.proofs.Common.{◌≤◌, ◌+◌, List, length, take, sym, ap, ◌∙◌, subst}
use Rattle.std.proofs.lemmas.Bool.{false≢true}
use Rattle.net_types.specs.declared.atom.Conn.{Conn}
use Rattle.task_types.specs.declared.task.Need.{Need}
use Rattle.task_rules.specs.Needs.{AreAsked}
use Rattle.task_needs.specs.Plain.{Before}
use Rattle.task_needs.proofs.Asking.{asked_pushed, asked_passed, asked_ended, asked_here, not_asked, conn_at, IsKnown}
use Rattle.task_needs.proofs.asked.push_asked.Goals as goal
use Rattle.task_needs.proofs.asked.push_asked.Goals.{then-not-is_known+in_ok-push, else-not-is_known}

pub loop-input-preserved : goal.loop-input-preserved
loop-input-preserved c n atoms listed start =
    let before = c.loop-input.invariant n atoms listed start in
    let at = conn_at c.args.atom.now.ins c.as_slice-conns.result.now c.loop-input.input c.index-conns-input.result c.as_slice-conns.ensures c.loop-input-test.true c.index-conns-input.is in
    elim c.if-not-is_known.branch [
      | then-not-is_known+in_ok-push w ↦
          (subst (λ (l : List Need). AreAsked n atoms c.args.nets.now (Before c.args.place (c.loop-input.input + 1)) l) (sym (ap (λ v. v.items) w.needs-is ∙ w.in_ok-push.ensures.items))
          (asked_pushed n atoms c.args.nets.now c.args.place c.loop-input.input c.loop-input.needs.items before w.asked_at.result
          (asked_here n atoms c.args.nets.now c.args.place c.loop-input.input c.args.atom.now c.index-conns-input.result listed at w.place_of.result w.asked_at.result
          (λ known. false≢true (sym w.if-not-is_known.true ∙ c.is_known.ensures.1
          (subst (λ (l : List Conn). IsKnown c.args.atom.now.kind (take c.loop-input.input l) c.index-conns-input.result.net) (sym c.as_slice-conns.ensures) known))) w.place_of.ensures w.asked_at.ensures.lut w.asked_at.ensures.other)))
      | else-not-is_known w ↦
          (subst (λ (l : List Need). AreAsked n atoms c.args.nets.now (Before c.args.place (c.loop-input.input + 1)) l) (sym (ap (λ v. v.items) w.needs-is))
          (asked_passed n atoms c.args.nets.now c.args.place c.loop-input.input c.loop-input.needs.items before
          (not_asked n atoms c.args.nets.now c.args.place c.loop-input.input c.args.atom.now c.index-conns-input.result listed at (subst (λ (l : List Conn). IsKnown c.args.atom.now.kind (take c.loop-input.input l) c.index-conns-input.result.net) c.as_slice-conns.ensures (c.is_known.ensures.0 w.if-not-is_known.false)))))
    ]

pub returns : goal.returns
returns c n atoms listed start =
    asked_ended n atoms c.args.nets.now c.args.place c.loop-input.input c.loop-input.needs.items (c.loop-input.invariant n atoms listed start) c.args.atom.now listed
    (subst (λ (l : List Conn). length l ≤ c.loop-input.input) c.as_slice-conns.ensures c.loop-input-test.false)
