use Rattle.std.proofs.Common.{Bool, true, false}
use Rattle.std.specs.Bool.{OnTrue}
use Rattle.std.specs.Prelude.{◌<◌, length}
use Rattle.task_options.proofs.Pins.{pin_inside}
use Rattle.task_options.proofs.live.is_live_pin.Goals as goal

pub returns-in-None-clause-live : goal.returns-in-None-clause-live
returns-in-None-clause-live c = (λ no. let bad : ⊥ = cc no in absurd bad, λ live. absurd (c.in-None.ensures live.number live.into))

pub returns-in-Some-clause-inside : goal.returns-in-Some-clause-inside
returns-in-Some-clause-inside c = by c.is_live_edge.result
  where
    by : (b : Bool) → OnTrue b (c.args.pin.0 < length c.args.graph.now.pins)
    by true = pin_inside c.args.graph.now c.args.pin.0 c.args.mode c.in-Some.first.0 c.law.ensures c.in-Some.ensures
    by false = tt
