use Rattle.std.proofs.Common.{◌+◌, arith, subst, sym}
use Rattle.prog_map.proofs.ProgSteps.{AreFirstSteps, steps_none, steps_more, steps_whole}
use Rattle.prog_map.proofs.walk.steps_back.Goals as goal

pub loop-pin-init : goal.loop-pin-init
loop-pin-init c = subst (λ l. AreFirstSteps c.args.graph.now c.args.prog.now l 0) (sym c.new-steps.ensures.items) (steps_none _ _)

pub loop-pin-preserved : goal.loop-pin-preserved
loop-pin-preserved c =
    subst (λ l. AreFirstSteps c.args.graph.now c.args.prog.now l (c.loop-pin.pin + 1)) (sym c.in_ok-push.ensures.items)
    (steps_more _ _ _ _ c.step_number-step.result c.loop-pin.invariant c.step_number-step.ensures.exact c.step_number-step.ensures.inside)

pub returns : goal.returns
returns c = steps_whole _ _ _ c.loop-pin.pin (omega (arith, c.loop-pin-test.false, c.loop-pin.auto.pin-end, c.pins-pin-end.ensures)) c.loop-pin.invariant
