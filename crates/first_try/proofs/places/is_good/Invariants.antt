use Rattle.std.proofs.Common.{◌≡◌}
use Rattle.first_try.proofs.places.is_good.Given as goal

abbrev pub invariant-loop-number : goal.invariant-loop-number
invariant-loop-number l = l.reached ≡ l.fn.reached
