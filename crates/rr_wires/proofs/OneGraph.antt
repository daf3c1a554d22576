-- Nodes and edges have one graph of wires.
use Rattle.std.proofs.Common.{◌≡◌, ◌<◌, ℕ, List, sym, ap, ◌∙◌, subst, arith}
use Rattle.list_laws.specs.Orders.{Ordered, HaveSame}
use Rattle.list_laws.proofs.Sorting.{one_sorting}
use Rattle.rr_items.specs.declared.carriers.TilePin.{TilePin}
use Rattle.rr_items.specs.declared.carriers.CarriedNode.{CarriedNode}
use Rattle.rr_wires.specs.declared.types.End.{End}
use Rattle.rr_wires.specs.declared.types.NodeEdge.{NodeEdge}
use Rattle.rr_wires.specs.declared.types.OwnedEdge.{OwnedEdge}
use Rattle.rr_wires.specs.declared.types.REdgeIx.{REdgeIx}
use Rattle.rr_wires.specs.declared.types.WireIx.{WireIx}
use Rattle.rr_wires.specs.Numbering.{Numbering, WireGraph}
use Rattle.rr_wires.specs.Wires.{IsWireOfNode, IsWireOfPin, IsNumberingOf, AreOwned, IsGraphOf}
use Rattle.rr_wires.specs.Tables.{AreEdgesAt}
use Rattle.rr_wires.proofs.Keys.{numbering}
use Rattle.rr_wires.proofs.AddedNodes.{not_below}

along : (a b c : ℕ) → a < b → b < c → a < c
along a b c first second = omega (arith, first, second)

-- lists in a strict order of a number of each element are equal where they have the same elements
by_number : {X : Type 0} (n : X → ℕ) (xs ys : List X) → Ordered (λ (x y : X). n x < n y) xs → Ordered (λ (x y : X). n x < n y) ys → HaveSame xs ys → xs ≡ ys
by_number {X} n xs ys by_xs by_ys same =
    one_sorting (λ (x y : X). n x < n y) (λ x. not_below (n x)) (λ x y z. along (n x) (n y) (n z)) xs ys by_xs by_ys same

module _ (nodes : List CarriedNode) (m n : Numbering) (by_m : IsNumberingOf nodes m) (by_n : IsNumberingOf nodes n) where
  same_least : m.least ≡ n.least
  same_least = by_number (λ (i : ℕ). i) m.least n.least by_m.ascend by_n.ascend (record {
    forth = λ id has. (by_n.least id).1 ((by_m.least id).0 has);
    back = λ id has. (by_m.least id).1 ((by_n.least id).0 has);
  })

  same_nodes : m.nodes ≡ n.nodes
  same_nodes = by_number (λ (p : ℕ × WireIx). p.0) m.nodes n.nodes by_m.nodes_ascend by_n.nodes_ascend (record {
    forth = λ p has. (by_n.of_node p.0 p.1).1 (subst (λ (l : List ℕ). IsWireOfNode nodes l p.0 p.1) same_least ((by_m.of_node p.0 p.1).0 has));
    back = λ p has. (by_m.of_node p.0 p.1).1 (subst (λ (l : List ℕ). IsWireOfNode nodes l p.0 p.1) (sym same_least) ((by_n.of_node p.0 p.1).0 has));
  })

  same_pins : m.pins ≡ n.pins
  same_pins = by_number (λ (p : TilePin × WireIx). p.1.0) m.pins n.pins by_m.pins_ascend by_n.pins_ascend (record {
    forth = λ p has. (by_n.of_pin p.0 p.1).1 (subst (λ (l : List ℕ). IsWireOfPin nodes l p.0 p.1) same_least ((by_m.of_pin p.0 p.1).0 has));
    back = λ p has. (by_m.of_pin p.0 p.1).1 (subst (λ (l : List ℕ). IsWireOfPin nodes l p.0 p.1) (sym same_least) ((by_n.of_pin p.0 p.1).0 has));
  })

  pub same_numbering : m ≡ n
  same_numbering =
      ap (λ (l : List ℕ). numbering l m.nodes m.pins) same_least
      ∙ (ap (λ (l : List (ℕ × WireIx)). numbering n.least l m.pins) same_nodes ∙ ap (λ (l : List (TilePin × WireIx)). numbering n.least n.nodes l) same_pins)

same_owned : (nodes : List (ℕ × WireIx)) (edges : List NodeEdge) (xs ys : List OwnedEdge) → AreOwned nodes edges xs → AreOwned nodes edges ys → xs ≡ ys
same_owned nodes edges xs ys by_xs by_ys = by_number (λ (o : OwnedEdge). o.place) xs ys by_xs.ascend by_ys.ascend (record {
  forth = λ o has. (by_ys.each o).1 ((by_xs.each o).0 has);
  back = λ o has. (by_xs.each o).1 ((by_ys.each o).0 has);
})

abbrev pub graph : Numbering → List OwnedEdge → WireGraph
graph n owned = record { numbering = n; edges = owned }

pub graphs_same : (nodes : List CarriedNode) (edges : List NodeEdge) (g h : WireGraph) → IsGraphOf nodes edges g → IsGraphOf nodes edges h → g ≡ h
graphs_same nodes edges g h by_g by_h =
    let numbers = same_numbering nodes g.numbering h.numbering by_g.numbering by_h.numbering in
    let owned = subst (λ (n : Numbering). AreOwned n.nodes edges g.edges) numbers by_g.owned in
    ap (λ (n : Numbering). graph n g.edges) numbers ∙ ap (λ (l : List OwnedEdge). graph h.numbering l) (same_owned h.numbering.nodes edges g.edges h.edges owned by_h.owned)

pub lists_same : (edges : List OwnedEdge) (end : End) (w : WireIx) (xs ys : List REdgeIx) → AreEdgesAt edges end w xs → AreEdgesAt edges end w ys → xs ≡ ys
lists_same edges end w xs ys by_xs by_ys = by_number (λ (e : REdgeIx). e.0) xs ys by_xs.ascend by_ys.ascend (record {
  forth = λ e has. (by_ys.each e).1 ((by_xs.each e).0 has);
  back = λ e has. (by_xs.each e).1 ((by_ys.each e).0 has);
})
