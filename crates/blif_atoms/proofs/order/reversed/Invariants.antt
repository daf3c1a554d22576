use Rattle.std.proofs.Common.{◌≡◌, ◌++◌, length}
use Rattle.std.specs.Prelude.{reverse}
use Rattle.blif_atoms.proofs.order.reversed.Given as goal

abbrev pub invariant-turn : goal.invariant-turn
invariant-turn g l = l.turned.items ++ reverse l.left ≡ reverse l.initial.left

abbrev pub decreases-turn : goal.decreases-turn
decreases-turn g l = length l.left
