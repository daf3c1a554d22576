use Rattle.std.specs.Prelude.{◌≡◌}
use Rattle.node_crowd.proofs.Apart.{AreBlockedTo}
use Rattle.node_crowd.proofs.crowd.are_blocked.Given as goal

abbrev pub invariant-loop-number : goal.invariant-loop-number
invariant-loop-number l = AreBlockedTo l.graph l.net.atoms l.task l.trail.made l.needs l.listed.items l.number-index × (l.reached ≡ l.fn.reached)
