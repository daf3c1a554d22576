-- What lines and pins keep.
use Rattle.std.proofs.Common.{◌≡◌, ◌==◌, inl, inr, ℕ, List, [], ◌∷◌, ◌++◌, map, refl, sym, ap, ◌∙◌, subst}
use Rattle.std.specs.List.{flat_map}
use Rattle.std.proofs.lemmas.List.Concat.{flat_map_single, flat_map-append}
use Rattle.vtr_base.specs.Lists.{Has}
use Rattle.list_laws.specs.Orders.{Once}
use Rattle.list_laws.proofs.Members.{from_filter}
use Rattle.net_types.specs.declared.atom.Atom.{Atom}
use Rattle.net_types.specs.declared.atom.Conn.{Conn}
use Rattle.net_types.specs.declared.parts.NetlistParts.{NetlistParts}
use Rattle.net_types.specs.Atoms.{formal_of}
use Rattle.net_types.specs.Order.{group_of, of_group}
use Rattle.net_types.specs.WellFormed.{IsNetlist}
use Rattle.blif_order.specs.Orders.{IsLineOrder}
use Rattle.order_laws.specs.Kept.{drives, called, in_groups}
use Rattle.order_laws.specs.Laws.{LinesKeep, PinsKeep}
use Rattle.order_laws.proofs.Merging.{from_merge, once_split, merge_once, merges_once}
use Rattle.order_laws.proofs.Driving.{driven_once}
use Rattle.order_laws.proofs.Grouping.{same_groups, grouped_same}
use Rattle.order_laws.proofs.Naming.{lines_named}

group_has : (n : NetlistParts) (group : ℕ) (a : Atom) → Has (of_group group n.atoms) a → Has n.atoms a
group_has n group a has = (from_filter (λ (b : Atom). group_of b.kind == group) n.atoms a has).0

line_has : (n : NetlistParts) (lines : List Atom) → IsLineOrder n lines → (a : Atom) → Has lines a → Has n.atoms a
line_has n lines order a has = elim (from_merge order.pads (of_group 2 n.atoms) lines a order.are_lines has) [
  | inl pad ↦ elim (from_merge (of_group 0 n.atoms) (of_group 1 n.atoms) order.pads a order.are_pads pad) [
    | inl input ↦ group_has n 0 a input
    | inr output ↦ group_has n 1 a output
  ]
  | inr elem ↦ group_has n 2 a elem
]

pub lines_keep : LinesKeep
lines_keep n lines law order =
    let ins = of_group 0 n.atoms in
    let outs = of_group 1 n.atoms in
    let others = of_group 2 n.atoms in
    let sorted : in_groups n.atoms ≡ n.atoms = grouped_same n.atoms law.atoms.grouped in
    let name = λ (a : Atom). called a ∷ [] in
    let driven = subst (λ l. Once (flat_map drives l)) (sym sorted) (driven_once n law) in
    let names = subst (λ l. Once (flat_map name l)) (sym sorted) (subst Once (sym (flat_map_single called n.atoms)) law.atoms.once) in
    record {
      each = line_has n lines order;
      driven_once = merges_once drives ins outs others order.pads lines order.are_pads order.are_lines driven;
      names_once = subst Once (flat_map_single called lines) (merges_once name ins outs others order.pads lines order.are_pads order.are_lines names);
      named = lines_named n lines order law.named (line_has n lines order);
      grouped = same_groups n lines order ∙ sorted;
    }

pub pins_keep : PinsKeep
pins_keep atom pins is order =
    let formal = λ (c : Conn). formal_of c ∷ [] in
    let all = subst Once (sym (flat_map_single formal_of (atom.ins ++ atom.outs))) is.once in
    let apart = once_split (flat_map formal atom.ins) (flat_map formal atom.outs) (subst Once (flat_map-append formal atom.ins atom.outs) all) in
    subst Once (flat_map_single formal_of pins) (merge_once formal atom.ins atom.outs pins order.merged apart)
