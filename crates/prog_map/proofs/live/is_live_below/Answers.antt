use Rattle.std.proofs.Common.{refl}
use Rattle.prog_map.proofs.Climbs.{root_live, live_below}
use Rattle.prog_map.proofs.LiveBits.{parent_dead, parent_live}
use Rattle.prog_map.proofs.live.is_live_below.Goals as goal

pub returns-in-None : goal.returns-in-None
returns-in-None c = (λ yes. root_live _ _ _ c.law.ensures (c.in-None.ensures.root.0 refl), λ live. refl)

pub returns-then-not-live-step : goal.returns-then-not-live-step
returns-then-not-live-step c =
    parent_dead _ _ _ _ c.in-Some.step c.requires.before c.in-Some.ensures.step c.if-not-live-step.true
    (live_below _ _ c.in-Some.step _ c.in-Some.ensures.step c.law.ensures)

pub returns-else-not-live-step : goal.returns-else-not-live-step
returns-else-not-live-step c =
    parent_live _ _ _ _ c.in-Some.step c.requires.before c.in-Some.ensures.step c.if-not-live-step.false
    (live_below _ _ c.in-Some.step _ c.in-Some.ensures.step c.law.ensures) c.is_set_to.ensures
