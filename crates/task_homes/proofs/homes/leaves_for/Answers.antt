use Rattle.std.proofs.Common.{◌≤◌, ◌+◌, ℕ, List, sym, ap, ◌∙◌, subst}
use Rattle.std.proofs.lemmas.Bool.{false≢true}
use Rattle.pb_expand.specs.declared.number.PbIx.{PbIx}
use Rattle.task_homes.specs.Homes.{IsLeafList}
use Rattle.task_homes.proofs.Listing.{ListsBelow, listed_more, listed_same, listed_all}
use Rattle.task_homes.proofs.homes.leaves_for.Goals as goal
use Rattle.task_homes.proofs.homes.leaves_for.Goals.{then-can_hold+in_ok-push, else-can_hold}

pub loop-number-preserved : goal.loop-number-preserved
loop-number-preserved c =
    elim c.if-can_hold.branch [
      | then-can_hold+in_ok-push w ↦
          (subst (λ (l : List PbIx). ListsBelow c.args.graph.now c.args.net.now.atoms c.args.atom (c.loop-number.number + 1) l) (sym (ap (λ v. v.items) w.leaves-is))
          (listed_more c.args.graph.now c.args.net.now.atoms c.args.atom c.loop-number.number c.loop-number.leaves.items c.loop-number.invariant (c.can_hold.ensures.0 w.if-can_hold.true) w.push.new.self.items w.in_ok-push.ensures.items))
      | else-can_hold w ↦
          (subst (λ (l : List PbIx). ListsBelow c.args.graph.now c.args.net.now.atoms c.args.atom (c.loop-number.number + 1) l) (sym (ap (λ v. v.items) w.leaves-is))
          (listed_same c.args.graph.now c.args.net.now.atoms c.args.atom c.loop-number.number c.loop-number.leaves.items c.loop-number.invariant (λ can. false≢true (sym w.if-can_hold.false ∙ c.can_hold.ensures.1 can))))
    ]

pub returns : goal.returns
returns c =
    subst (λ (l : List PbIx). IsLeafList c.args.graph.now c.args.net.now.atoms c.args.atom l) (sym c.from_vec.ensures)
    (listed_all c.args.graph.now c.args.net.now.atoms c.args.atom c.loop-number.number c.loop-number.leaves.items (subst (λ (k : ℕ). k ≤ c.loop-number.number) c.pbs-number-end.ensures c.loop-number-test.false) c.loop-number.invariant)
