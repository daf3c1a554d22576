use Rattle.std.proofs.Common.{arith}
use Rattle.prog_map.proofs.Sides.{untrue, no_more_input, no_input_at_all}
use Rattle.prog_map.proofs.leaf.first_input.Goals as goal

pub loop-place-preserved : goal.loop-place-preserved
loop-place-preserved c =
    no_more_input c.args.ports.now c.loop-place.place c.index-ports-place.result c.loop-place-test.true c.index-ports-place.is c.loop-place.invariant (λ same. untrue _ c.if-has_side.false (c.has_side.ensures.1 same))

pub returns-clause-place : goal.returns-clause-place
returns-clause-place c = no_input_at_all c.args.ports.now c.loop-place.place (omega (arith, c.loop-place-test.false)) c.loop-place.invariant
