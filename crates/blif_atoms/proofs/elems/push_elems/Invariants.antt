use Rattle.std.proofs.Common.{◌≡◌, ◌++◌, map, vec_len}
use Rattle.std.specs.Prelude.{reverse}
use Rattle.vtr_base.specs.Lists.{Has}
use Rattle.net_types.specs.Atoms.{IsAtom}
use Rattle.blif_items.specs.declared.elem.Elem.{Elem}
use Rattle.blif_parts.specs.Atoms.{elem_atom}
use Rattle.blif_atoms.proofs.elems.push_elems.Given as goal

abbrev pub invariant-elems : goal.invariant-elems
invariant-elems l = record {
  made : l.atoms.items ++ map elem_atom (reverse l.left.items) ≡ l.initial.atoms.items ++ map elem_atom (reverse l.initial.left.items);
  each : (e : Elem) → Has (reverse l.left.items) e → IsAtom (elem_atom e);
}

abbrev pub decreases-elems : goal.decreases-elems
decreases-elems l = vec_len l.left
