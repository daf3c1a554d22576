use Rattle.std.proofs.Common.{refl, sym, subst}
use Rattle.prog_map.specs.Live.{IsLiveAt}
use Rattle.task_types.specs.Decisions.{mode_in}
use Rattle.task_trail.proofs.live.+is_live.Goals as goal

pub returns-then-not-is_in_mode : goal.returns-then-not-is_in_mode
returns-then-not-is_in_mode t c = (
  λ no. cc,
  λ live. c.if-not-is_in_mode.ensures.1 ((c.live_laws.ensures.below (mode_in c.args.trail.now.made) c.in-Some.step c.args.pb.0 c.in-Some.ensures.step).0 live).1,
)

pub returns-in-None : goal.returns-in-None
returns-in-None t c = (
  λ _. subst (λ k. IsLiveAt c.args.graph.now (mode_in c.args.trail.now.made) k) (sym (c.in-None.ensures.root.0 refl)) (c.live_laws.ensures.root (mode_in c.args.trail.now.made)),
  λ _. refl,
)

pub returns-else-not-is_in_mode : goal.returns-else-not-is_in_mode
returns-else-not-is_in_mode t c =
    let below = c.live_laws.ensures.below (mode_in c.args.trail.now.made) c.in-Some.step c.args.pb.0 c.in-Some.ensures.step in
    (λ above. below.1 (c.is_live.ensures.0 above, c.if-not-is_in_mode.ensures.0 refl), λ live. c.is_live.ensures.1 (below.0 live).0)
