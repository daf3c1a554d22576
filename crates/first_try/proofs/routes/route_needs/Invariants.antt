use Rattle.std.proofs.Common.{◌≡◌}
use Rattle.first_try.specs.Paths.{IsOnPath}
use Rattle.first_try.proofs.routes.route_needs.Given as goal

abbrev pub invariant-loop-number : goal.invariant-loop-number
invariant-loop-number l = IsOnPath l.graph l.task l.trail × (l.reached ≡ l.fn.reached)
