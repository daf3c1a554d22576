use Rattle.std.proofs.Common.{◌≤◌, take}
use Rattle.net_types.specs.Order.{nets_of}
use Rattle.atom_homes.specs.Homes.{HasDifferent}
use Rattle.atom_homes.proofs.lut.different.Given as goal

abbrev pub invariant-loop-place : goal.invariant-loop-place
invariant-loop-place l = record {
  nets : HasDifferent (nets_of (take l.place l.conns)) l.count;
  low : l.count ≤ l.place;
}
