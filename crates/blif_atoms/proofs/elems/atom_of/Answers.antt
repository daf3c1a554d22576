use Rattle.std.proofs.Common.{arith, length, List, ℕ, ap}
use Rattle.blif_atoms.proofs.Parts.{lut_is_narrow}
use Rattle.blif_atoms.proofs.elems.atom_of.Goals as goal

pub bit_conns-requires : goal.bit_conns-requires
bit_conns-requires c =
    let narrow = lut_is_narrow c.args.elem c.in-Lut.name c.in-Lut.inputs c.in-Lut.output c.in-Lut.table c.in-Lut.is c.requires in
    omega (arith, narrow, ap (λ (xs : List ℕ). length xs) c.as_slice.ensures)
