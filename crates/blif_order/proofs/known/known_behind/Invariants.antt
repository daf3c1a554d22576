use Rattle.std.proofs.Common.{◌≡◌, ◌≤◌, drop}
use Rattle.net_types.specs.Order.{nets_of}
use Rattle.blif_order.specs.Tops.{top}
use Rattle.blif_order.proofs.known.known_behind.Given as goal

abbrev pub invariant-loop-conn : goal.invariant-loop-conn
invariant-loop-conn l = record {
  still : top l.known (nets_of (drop l.conn-index l.conns)) ≡ top l.initial.known (nets_of l.conns);
  more : l.initial.known ≤ l.known;
}
