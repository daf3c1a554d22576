-- The pin and the mode of an edge are there.
use Rattle.std.proofs.Common.{◌≡◌, ◌<◌, ℕ, List, Some, IsSome, length, slice_get, refl, sym, ap, subst, ◌∙◌}
use Rattle.std.specs.Option.{option_and_then}
use Rattle.std.proofs.lemmas.Option.{slice_get_within}
use Rattle.vtr_base.specs.Lists.{Has}
use Rattle.list_laws.proofs.Members.{has_at}
use Rattle.arch_types.specs.declared.block.PbType.{PbType}
use Rattle.arch_types.specs.Tree.{modes_of}
use Rattle.arch_types.specs.Address.{Address, at}
use Rattle.pb_expand.specs.declared.number.Edge.{Edge}
use Rattle.pb_expand.specs.declared.number.EdgeIx.{EdgeIx}
use Rattle.pb_expand.specs.Graph.{Graph, edge_ix, mode_at, into_from}
use Rattle.pb_expand.specs.Ends.{ListsEnds}
use Rattle.pb_expand.specs.Expansion.{IsExpansion, IsEdgeOf}
use Rattle.prog_map.specs.Choices.{IsEdgeInto}
use Rattle.task_types.specs.Ends.{IsRootInput}

-- an edge leads into a pin that is there
pub end_inside : (g : Graph) → IsExpansion g → (pin mode number : ℕ) → IsEdgeInto g pin mode number → pin < length g.pins
end_inside g law pin mode number into =
    let of : IsEdgeOf g into.edge = law.has_edges.each into.edge (has_at g.edges number into.edge into.there) in
    let inside = slice_get_within g.pins into.edge.dst.0 _ of.is_dst.is_pin in
    subst (λ p. p < length g.pins) into.ends inside

pub root_inside : (g : Graph) (pin : ℕ) → IsRootInput g pin → pin < length g.pins
root_inside g pin is = slice_get_within g.pins pin is.at is.is

-- the first edge into a pin in a mode is one of the graph
pub first_inside : (g : Graph) → ListsEnds g → (pin mode : ℕ) (list : List EdgeIx) (first : EdgeIx) → list ≡ into_from 0 g.edges pin mode → slice_get list 0 ≡ Some first →
    first.0 < length g.edges
first_inside g lists pin mode list first is at =
    let has : Has (into_from 0 g.edges pin mode) (edge_ix first.0) = subst (λ l. Has l (edge_ix first.0)) is (has_at list 0 first at) in
    let there = ((lists pin mode).exact first.0).0 has in
    slice_get_within g.edges first.0 there.0 there.1

-- the owner of an edge has its mode
pub mode_there : (g : Graph) → IsExpansion g → (k : ℕ) (e : Edge) → slice_get g.edges k ≡ Some e → IsSome (mode_at g e.owner.0 e.mode)
mode_there g law k e there =
    let of : IsEdgeOf g e = law.has_edges.each e (has_at g.edges k e there) in
    let is : mode_at g e.owner.0 e.mode ≡ Some of.mode =
    ap (λ o. option_and_then (λ (block : PbType). slice_get (modes_of block.kind) e.mode) (option_and_then (λ (a : Address). at g.root a) o)) of.is_owner ∙
    ap (option_and_then (λ (block : PbType). slice_get (modes_of block.kind) e.mode)) of.is_block ∙ of.is_mode in
    subst (λ o. IsSome o) (sym is) refl
