use Rattle.task_types.specs.Decisions.{mode_in}
use Rattle.task_options.proofs.Pins.{live_to, live_from}
use Rattle.task_options.proofs.live.is_live_edge.Goals as goal

pub returns-then-is_in_mode : goal.returns-then-is_in_mode
returns-then-is_in_mode c pin mode into = (
  λ yes. live_to c.args.graph.now (mode_in c.args.trail.now.made) pin mode c.args.edge.0 c.edge-here.result into c.edge-here.ensures.is (c.is_in_mode.ensures.0 c.if-is_in_mode.true) (c.is_live.ensures.0 yes),
  λ live. c.is_live.ensures.1 (live_from c.args.graph.now (mode_in c.args.trail.now.made) pin mode c.args.edge.0 c.edge-here.result c.one_owner.ensures into c.edge-here.ensures.is live).1,
)

pub returns-else-is_in_mode : goal.returns-else-is_in_mode
returns-else-is_in_mode c pin mode into = (
  λ yes. let bad : ⊥ = cc (c.if-is_in_mode.false, yes) in absurd bad,
  λ live. c.is_in_mode.ensures.1 (live_from c.args.graph.now (mode_in c.args.trail.now.made) pin mode c.args.edge.0 c.edge-here.result c.one_owner.ensures into c.edge-here.ensures.is live).0,
)
