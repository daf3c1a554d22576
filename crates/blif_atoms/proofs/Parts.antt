-- What holds of the atoms of a model holds of what they are made of.
use Rattle.std.proofs.Common.{◌≡◌, ◌+◌, ◌<◌, ◌≤◌, suc, ℕ, Bool, List, [], ◌∷◌, ◌++◌, codes, length, map, refl, ap, subst, arith}
use Rattle.std.specs.List.{All}
use Rattle.vtr_base.specs.Lists.{Has}
use Rattle.list_laws.proofs.Members.{has_left, has_right, has_map, each_has}
use Rattle.net_types.specs.declared.atom.Atom.{Atom}
use Rattle.net_types.specs.declared.atom.Conn.{Conn}
use Rattle.net_types.specs.Atoms.{IsAtom}
use Rattle.net_types.specs.WellFormed.{HaveNets}
use Rattle.blif_items.specs.declared.elem.Elem.{Elem}
use Rattle.blif_items.specs.declared.elem.Elem.TheVariants as elem
use Rattle.blif_parts.specs.declared.parts.ModelParts.{ModelParts}
use Rattle.blif_parts.specs.Atoms.{atoms_of, bits_from, conn_at, elem_atom, input_atom, output_atom}

pub length-bits_from : (port : List ℕ) (bit : ℕ) (nets : List ℕ) → length (bits_from port bit nets) ≡ length nets
length-bits_from port bit [] = refl
length-bits_from port bit (net ∷ nets) = ap suc (length-bits_from port (bit + 1) nets)

-- a LUT has at most 8 inputs
pub lut_is_narrow : (e : Elem) (name inputs : List ℕ) (output : ℕ) (table : List Bool) → e ≡ elem.Lut name inputs output table →
    IsAtom (elem_atom e) → length inputs ≤ 8
lut_is_narrow e name inputs output table is atom =
    let a = subst (λ (x : Elem). IsAtom (elem_atom x)) is atom in
    omega (arith, a.few, length-bits_from (codes "in") 0 inputs)

abbrev Within : ℕ → Atom → Type 0
Within nets a = All (λ (c : Conn). c.net < nets) a.ins × All (λ (c : Conn). c.net < nets) a.outs

module _ (p : ModelParts) where
  pub inputs_low : HaveNets (length p.nets) (atoms_of p) → (net : ℕ) → Has p.inputs net → net < length p.nets
  inputs_low within net has =
      let ins = map (input_atom p.nets) p.inputs in
      let outs = map (output_atom p.nets) p.outputs in
      let there = has_left (ins ++ outs) (map elem_atom p.elems) _ (has_left ins outs _ (has_map (input_atom p.nets) p.inputs net has)) in
      (each_has (Within (length p.nets)) (atoms_of p) within (input_atom p.nets net) there).1 0 (conn_at (codes "out") 0 net) (omega arith)

  pub outputs_low : HaveNets (length p.nets) (atoms_of p) → (net : ℕ) → Has p.outputs net → net < length p.nets
  outputs_low within net has =
      let ins = map (input_atom p.nets) p.inputs in
      let outs = map (output_atom p.nets) p.outputs in
      let there = has_left (ins ++ outs) (map elem_atom p.elems) _ (has_right ins outs _ (has_map (output_atom p.nets) p.outputs net has)) in
      (each_has (Within (length p.nets)) (atoms_of p) within (output_atom p.nets net) there).0 0 (conn_at (codes "in") 0 net) (omega arith)

  pub elems_are_atoms : All IsAtom (atoms_of p) → (e : Elem) → Has p.elems e → IsAtom (elem_atom e)
  elems_are_atoms each e has =
      let ins = map (input_atom p.nets) p.inputs in
      let outs = map (output_atom p.nets) p.outputs in
      let there = has_right (ins ++ outs) (map elem_atom p.elems) (elem_atom e) (has_map elem_atom p.elems e has) in
      each_has IsAtom (atoms_of p) each (elem_atom e) there
