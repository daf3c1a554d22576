use Rattle.prog_map.specs.declared.groups.ModeAt.{ModeAt}
use Rattle.prog_map.specs.Groups.{GetsNumber, same_mode, mode_ix}
use Rattle.prog_map.specs.Order.{hangs_at}
use Rattle.prog_map.proofs.GroupLemmas.{none_added, same_added}
use Rattle.prog_map.proofs.Hanging.{hangs_is, root_hangs, on_ok_then}
use Rattle.std.proofs.Common.{refl, inl, inr}
use Rattle.prog_map.proofs.order.push_kid.Goals as goal

pub returns-in-None-clause-number : goal.returns-in-None-clause-number
returns-in-None-clause-number c =
    none_added c.args.groups.now.numbers c.args.groups.now.numbers (hangs_at c.args.graph.now c.args.pb.0) c.args.pb.0 refl
    (root_hangs c.args.graph.now c.args.pb.0 c.law.ensures (c.in-None.ensures.root.0 refl))

pub returns-in-Some-clause-number : goal.returns-in-Some-clause-number
returns-in-Some-clause-number c =
    let at : ModeAt = record { pb = c.in-Some.step.parent; mode = c.in-Some.step.mode } in
    on_ok_then (GetsNumber c.args.groups.now.numbers c.push.new.self.numbers (λ pb mode. same_mode at (mode_ix pb mode)) c.args.pb.0)
    (GetsNumber c.args.groups.now.numbers c.push.new.self.numbers (hangs_at c.args.graph.now c.args.pb.0) c.args.pb.0) c.push.result
    (same_added c.args.groups.now.numbers c.push.new.self.numbers (λ pb mode. same_mode at (mode_ix pb mode)) (hangs_at c.args.graph.now c.args.pb.0) c.args.pb.0
    (hangs_is c.args.graph.now c.in-Some.step c.args.pb.0 at c.law.ensures c.in-Some.ensures.step refl refl)) c.push.ensures

pub returns-in-None-clause-parent : goal.returns-in-None-clause-parent
returns-in-None-clause-parent c = inl (c.in-None.ensures.root.0 refl)

pub returns-in-Some-clause-parent : goal.returns-in-Some-clause-parent
returns-in-Some-clause-parent c = inr (c.in-Some.step, c.in-Some.ensures.step)
