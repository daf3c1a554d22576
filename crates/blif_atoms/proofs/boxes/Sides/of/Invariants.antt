use Rattle.std.proofs.Common.{◌≡◌, ◌++◌, Bool, true, false, vec_len}
use Rattle.std.specs.Prelude.{reverse}
use Rattle.blif_parts.specs.Atoms.{conns_on}
use Rattle.blif_atoms.proofs.boxes.Sides.of.Given as goal

abbrev pub invariant-pins : goal.invariant-pins
invariant-pins l = record {
  ins : l.ins.items ++ conns_on false (reverse l.left.items) ≡ conns_on false (reverse l.initial.left.items);
  outs : l.outs.items ++ conns_on true (reverse l.left.items) ≡ conns_on true (reverse l.initial.left.items);
}

abbrev pub decreases-pins : goal.decreases-pins
decreases-pins l = vec_len l.left
