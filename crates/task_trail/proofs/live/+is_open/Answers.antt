use Rattle.std.proofs.Common.{sym, ◌∙◌}
use Rattle.task_types.specs.Decisions.{mode_in}
use Rattle.task_trail.proofs.live.+is_open.Goals as goal

pub returns-then-not-may_be : goal.returns-then-not-may_be
returns-then-not-may_be t c = (
  λ no. cc,
  λ opens.
      c.if-not-may_be.ensures.1
      (λ m is. ((c.open_laws.ensures.below (mode_in c.args.trail.now.made) c.in-Some.step c.args.pb.0 c.in-Some.ensures.step).0 opens).1 m (sym c.mode_in.ensures ∙ is)),
)
