use Rattle.std.proofs.Common.{◌+◌, ◌<◌, ℕ, List, length, ap, sym, refl, subst, ◌∙◌, arith}
use Rattle.prog_map.proofs.BusyModes.{AreKidPairs, root_pairs, more_pairs, all_pairs}
use Rattle.prog_map.proofs.busy.kid_pairs.Goals.{in-Some+in_ok-push, in_default}
use Rattle.prog_map.proofs.busy.kid_pairs.Goals as goal

pub loop-pb-preserved : goal.loop-pb-preserved
loop-pb-preserved c =
    let inside : c.loop-pb.pb < length c.args.graph.now.instances = omega (arith, c.loop-pb-test.true, c.loop-pb.auto.pb-end, c.pbs-pb-end.ensures) in (
      omega (arith, inside),
      elim c.match-address_of.branch [
        | in-Some+in_ok-push w ↦
            subst (λ (l : List (ℕ × ℕ)). AreKidPairs c.args.graph.now (c.loop-pb.pb + 1) l) (sym (ap (λ v. v.items) w.pairs-is ∙ w.in_ok-push.ensures.items))
            (more_pairs c.args.graph.now c.loop-pb.pb w.in-Some.step c.loop-pb.pairs.items c.law.ensures w.in-Some.ensures.step c.loop-pb.invariant.1)
        | in_default w ↦
            subst (λ (l : List (ℕ × ℕ)). AreKidPairs c.args.graph.now (c.loop-pb.pb + 1) l) (sym (ap (λ v. v.items) w.pairs-is))
            (root_pairs c.args.graph.now c.loop-pb.pb c.loop-pb.pairs.items c.law.ensures (w.in_default.ensures.root.0 refl) c.loop-pb.invariant.1)
      ],
    )

pub returns-clause-each : goal.returns-clause-each
returns-clause-each c =
    all_pairs c.args.graph.now c.loop-pb.pb c.loop-pb.pairs.items (omega (arith, c.loop-pb-test.false, c.loop-pb.auto.pb-end, c.pbs-pb-end.ensures)) c.loop-pb.invariant.1
