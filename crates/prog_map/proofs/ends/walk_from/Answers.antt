use Rattle.std.proofs.Common.{set, true, subst, sym}
use Rattle.prog_map.specs.Ends.{IsWalked}
use Rattle.prog_map.proofs.Walking.{walked_inside, walked_next, unmet_falls}
use Rattle.prog_map.proofs.ends.walk_from.Goals as goal

pub unmet-requires-clause-node : goal.unmet-requires-clause-node
unmet-requires-clause-node c = walked_inside _ _ _ _ _ _ c.requires.marks c.loop-next.invariant

pub loop-next-smaller : goal.loop-next-smaller
loop-next-smaller c = unmet_falls c.loop-next.met c.in-Some.next c.in-Some.ensures.unmet

pub loop-next-preserved : goal.loop-next-preserved
loop-next-preserved c =
    subst
    (λ l. IsWalked c.args.steps.now c.args.met.now (set c.loop-next.met c.in-Some.next true) c.args.start c.in-Some.next l)
    (sym c.in_ok-push-2.ensures.items)
    (walked_next c.args.steps.now c.args.met.now c.loop-next.met c.args.start c.loop-next.end c.loop-next.nodes.items c.in-Some.next c.loop-next.invariant c.in-Some.ensures.ends c.in-Some.ensures.unmet)
