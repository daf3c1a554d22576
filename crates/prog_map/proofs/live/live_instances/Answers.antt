use Rattle.std.proofs.Common.{◌+◌, arith, sym, subst}
use Rattle.prog_map.specs.Choices.{mode_of}
use Rattle.prog_map.specs.Live.{AreLiveBefore}
use Rattle.prog_map.proofs.LiveBits.{live_more, live_whole}
use Rattle.prog_map.proofs.live.live_instances.Goals as goal

pub loop-pb-preserved : goal.loop-pb-preserved
loop-pb-preserved c =
    subst (λ l. AreLiveBefore c.args.graph.now (mode_of c.args.prog.now) l (c.loop-pb.pb + 1)) (sym c.in_ok-push.ensures.items)
    (live_more _ _ _ _ c.is_live_below-here.result c.loop-pb.invariant c.is_live_below-here.ensures)

pub returns : goal.returns
returns c = live_whole _ _ _ c.loop-pb.pb (omega (arith, c.loop-pb-test.false, c.loop-pb.auto.pb-end, c.pbs-pb-end.ensures)) c.loop-pb.invariant
