use Rattle.std.proofs.Common.{sym, subst, arith}
use Rattle.search_real.specs.Entered.{AreEntered}
use Rattle.search_real.proofs.Entering.{free_entered, all_before}
use Rattle.search_real.proofs.entries.decided.Goals as goal

pub returns : goal.returns
returns c =
    subst (λ es. AreEntered c.args.graph.now c.args.task.now c.args.trail.now.made es) (sym c.from_vec.ensures)
    (free_entered c.args.graph.now c.args.task.now c.args.trail.now.made c.loop-pin.entries.items c.requires.free c.requires.held
    (all_before c.args.trail.now.made c.loop-pin.entries.items c.loop-pin.pin _ c.loop-pin.invariant (omega (arith, c.loop-pin-test.false, c.pins-pin-end.ensures))))
