use Rattle.std.proofs.Common.{◌<◌, ◌+◌, ◌-◌, ◌^◌, ℕ, Bool, List, sym, ap, ◌∙◌, subst}
use Rattle.std.specs.List.{All}
use Rattle.joint_classes.specs.Classes.{AreClassesBy}
use Rattle.joint_classes.specs.Members.{IsClassOf, Reaches}
use Rattle.joint_classes.proofs.Classing.{AreFound, found_closed, found_same, found_more, found_all, members_low}
use Rattle.joint_classes.proofs.joined.found.Goals as goal
use Rattle.joint_classes.proofs.joined.found.Goals.{then-not-seen-number+in_ok-members+in_ok-ascending+in_ok-push, else-not-seen-number}

pub spread-requires-clause-closed : goal.spread-requires-clause-closed
spread-requires-clause-closed c = found_closed c.args.nexts.now c.args.prevs.now c.args.count c.loop-number.number c.loop-number.seen c.loop-number.classes.items c.loop-number.invariant

pub ascending-requires : goal.ascending-requires
ascending-requires c =
    subst (λ (l : List ℕ). All (λ n. n < 2 ^ 32 - 1) l) (sym c.as_slice.ensures.value)
    (members_low c.args.nexts.now c.args.prevs.now c.loop-number.number c.args.count c.loop-number.seen c.spread.new.seen c.in_ok-members.members.items c.loop-number.invariant.long c.requires.count c.in_ok-members.ensures)

pub loop-number-preserved : goal.loop-number-preserved
loop-number-preserved c =
    elim c.if-not-seen-number.branch [
      | then-not-seen-number+in_ok-members+in_ok-ascending+in_ok-push w ↦
          (subst (λ (s : List Bool). AreFound c.args.nexts.now c.args.prevs.now c.args.count (c.loop-number.number + 1) s c.if-not-seen-number.classes.items) (sym w.seen-is)
          (found_more c.args.nexts.now c.args.prevs.now c.args.count c.loop-number.number c.loop-number.seen c.loop-number.classes.items c.requires.tables c.loop-number.invariant w.spread.new.seen w.in_ok-members.members.items
          w.in_ok-ascending.field-0 w.in_ok-members.ensures (subst (λ (l : List ℕ). IsClassOf l w.in_ok-ascending.field-0) w.as_slice.ensures.value w.in_ok-ascending.ensures) c.if-not-seen-number.classes.items
          (ap (λ v. v.items) w.classes-is ∙ w.in_ok-push.ensures.items)))
      | else-not-seen-number w ↦
          (subst (λ (s : List Bool). AreFound c.args.nexts.now c.args.prevs.now c.args.count (c.loop-number.number + 1) s c.if-not-seen-number.classes.items) (sym w.seen-is)
          (subst (λ (l : List (List ℕ)). AreFound c.args.nexts.now c.args.prevs.now c.args.count (c.loop-number.number + 1) c.loop-number.seen l) (sym (ap (λ v. v.items) w.classes-is))
          (found_same c.args.nexts.now c.args.prevs.now c.args.count c.loop-number.number c.loop-number.seen c.loop-number.classes.items c.requires.tables c.loop-number.invariant w.if-not-seen-number.false)))
    ]

pub returns : goal.returns
returns c =
    subst (λ (l : List (List ℕ)). AreClassesBy (Reaches c.args.nexts.now c.args.prevs.now) c.args.count l) (sym c.from_vec.ensures)
    (found_all c.args.nexts.now c.args.prevs.now c.args.count c.loop-number.number c.loop-number.seen c.loop-number.classes.items c.loop-number-test.false c.loop-number.invariant)
