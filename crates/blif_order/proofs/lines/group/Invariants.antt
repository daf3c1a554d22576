use Rattle.std.proofs.Common.{◌≡◌, take}
use Rattle.net_types.specs.Order.{of_group}
use Rattle.blif_order.specs.Queues.{seen}
use Rattle.blif_order.proofs.lines.group.Given as goal

abbrev pub invariant-loop-atom : goal.invariant-loop-atom
invariant-loop-atom l = seen l.found.items ≡ of_group l.group (take l.atom-index l.atoms)
