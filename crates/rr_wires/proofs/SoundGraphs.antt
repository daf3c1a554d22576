-- What holds of every graph of wires.
use Rattle.std.proofs.Common.{◌≡◌, ◌<◌, ◌≤◌, ◌-◌, ◌^◌, ◌⊎◌, ℕ, List, Some, length, map, slice_get, refl, sym, ap, ◌∙◌, subst, inl, inr, arith}
use Rattle.std.specs.Prelude.{◌↔◌}
use Rattle.std.specs.Option.{option_map}
use Rattle.std.proofs.lemmas.Bool.{cases_lt}
use Rattle.std.proofs.lemmas.Option.{slice_get-map}
use Rattle.vtr_base.specs.Lists.{Has}
use Rattle.list_laws.specs.Orders.{Once, Ordered}
use Rattle.list_laws.proofs.Members.{has_at, at_has}
use Rattle.list_laws.proofs.Onces.{once_at}
use Rattle.rr_items.specs.declared.carriers.TilePin.{TilePin}
use Rattle.rr_items.specs.declared.carriers.CarriedNode.{CarriedNode}
use Rattle.rr_wires.specs.declared.types.End.{End}
use Rattle.rr_wires.specs.declared.types.End.TheVariants.{Src, Dst}
use Rattle.rr_wires.specs.declared.types.NodeEdge.{NodeEdge}
use Rattle.rr_wires.specs.declared.types.OwnedEdge.{OwnedEdge}
use Rattle.rr_wires.specs.declared.types.WireIx.{WireIx}
use Rattle.rr_wires.specs.Numbering.{Numbering, WireGraph}
use Rattle.rr_wires.specs.Wires.{IsNumberingOf, AreOwned, HasWiredNode, HasWiredEnds, HasAllWires, AreOneWire, IsWireOfNode, TellsWires}
use Rattle.rr_wires.specs.Steps.{HaveLows, HaveOneWire, HasKnownEnds}
use Rattle.rr_wires.specs.Tables.{EndsBelow}
use Rattle.rr_wires.specs.Sound.{IsSoundNumbering, IsSound}
use Rattle.rr_wires.proofs.Keys.{entry, pin_entry}
use Rattle.rr_wires.proofs.Lows.{wired_pin, one_along, one_back, low_itself, one_low}
use Rattle.rr_wires.proofs.Orders.{ordered_at}
use Rattle.rr_wires.proofs.AddedNodes.{not_below, node_known, pin_known, wire_within, least_once, on_some}

-- entries in a strict order of their keys have one value a key
pub one_value : (entries : List (ℕ × WireIx)) → Ordered (λ p q. p.0 < q.0) entries → HaveOneWire entries
one_value entries ordered id v w has_v has_w = by (at_has entries (id, v) has_v) (at_has entries (id, w) has_w)
  where
    same : (i : ℕ) → slice_get entries i ≡ Some (id, v) → slice_get entries i ≡ Some (id, w) → v ≡ w
    same i at_v at_w =
        let both : Some (entry id v) ≡ Some (entry id w) = sym at_v ∙ at_w in
        let one : entry id v ≡ entry id w = cc in
        ap (λ (p : ℕ × WireIx). p.1) one

    by : (i : ℕ) × (slice_get entries i ≡ Some (id, v)) → (j : ℕ) × (slice_get entries j ≡ Some (id, w)) → v ≡ w
    by at_v at_w = places at_v.0 at_w.0 at_v.1 at_w.1 (cases_lt at_v.0 at_w.0) (cases_lt at_w.0 at_v.0)
      where
        places : (i j : ℕ) → slice_get entries i ≡ Some (id, v) → slice_get entries j ≡ Some (id, w) → (i < j) ⊎ (j ≤ i) → (j < i) ⊎ (i ≤ j) → v ≡ w
        places i j at_i at_j (inl less) other = absurd (not_below id (ordered_at (λ (p q : ℕ × WireIx). p.0 < q.0) entries ordered i j (id, v) (id, w) less at_i at_j))
        places i j at_i at_j (inr more) (inl less) = absurd (not_below id (ordered_at (λ (p q : ℕ × WireIx). p.0 < q.0) entries ordered j i (id, w) (id, v) less at_j at_i))
        places i j at_i at_j (inr more) (inr fewer) =
            let is : j ≡ i = omega (arith, more, fewer) in
            same i at_i (ap (λ (k : ℕ). slice_get entries k) (sym is) ∙ at_j)

-- and one key a value, where the values are in a strict order
one_key : (entries : List (TilePin × WireIx)) → Ordered (λ p q. p.1.0 < q.1.0) entries → (p q : TilePin) (w : WireIx) → Has entries (p, w) → Has entries (q, w) → p ≡ q
one_key entries ordered p q w has_p has_q =
    let at_p = at_has entries (p, w) has_p in
    let at_q = at_has entries (q, w) has_q in
    places at_p.0 at_q.0 at_p.1 at_q.1 (cases_lt at_p.0 at_q.0) (cases_lt at_q.0 at_p.0)
  where
    same : (i : ℕ) → slice_get entries i ≡ Some (p, w) → slice_get entries i ≡ Some (q, w) → p ≡ q
    same i at_p at_q =
        let both : Some (pin_entry p w) ≡ Some (pin_entry q w) = sym at_p ∙ at_q in
        let one : pin_entry p w ≡ pin_entry q w = cc in
        ap (λ (e : TilePin × WireIx). e.0) one

    places : (i j : ℕ) → slice_get entries i ≡ Some (p, w) → slice_get entries j ≡ Some (q, w) → (i < j) ⊎ (j ≤ i) → (j < i) ⊎ (i ≤ j) → p ≡ q
    places i j at_i at_j (inl less) other = absurd (not_below w.0 (ordered_at (λ (a b : TilePin × WireIx). a.1.0 < b.1.0) entries ordered i j (p, w) (q, w) less at_i at_j))
    places i j at_i at_j (inr more) (inl less) = absurd (not_below w.0 (ordered_at (λ (a b : TilePin × WireIx). a.1.0 < b.1.0) entries ordered j i (q, w) (p, w) less at_j at_i))
    places i j at_i at_j (inr more) (inr fewer) =
        let is : j ≡ i = omega (arith, more, fewer) in
        same i at_i (ap (λ (k : ℕ). slice_get entries k) (sym is) ∙ at_j)

pub sound_numbering : (nodes : List CarriedNode) (n : Numbering) → IsNumberingOf nodes n → length n.least < 2 ^ 32 - 1 → IsSoundNumbering n
sound_numbering nodes n numbers few = record {
  few = few;
  ascend = numbers.ascend;
  node_wire = one_value n.nodes numbers.nodes_ascend;
  pin_wire = λ pin v w has_v has_w.
      (let a = pin_known nodes n numbers pin v has_v in
      let b = pin_known nodes n numbers pin w has_w in
      let low = one_low nodes a.node b.node a.on.low b.on.low a.on.least_of b.on.least_of (inr (pin, a.is, b.is)) in
      least_once nodes n numbers v w b.on.low.id (a.on.number ∙ ap (λ (i : ℕ). Some i) low) b.on.number);
  one_pin = one_key n.pins numbers.pins_ascend;
  nodes_within = λ id w has. (let r = node_known nodes n numbers id w has in wire_within nodes n numbers r.node w r.on);
  pins_within = λ pin w has. (let r = pin_known nodes n numbers pin w has in wire_within nodes n numbers r.node w r.on);
  least_on = λ id w at.
      (let r = (numbers.least id).0 (has_at n.least w.0 id at) in
      (numbers.of_node id w).1 (record {
        node = r.low;
        on = record { low = r.low; least_of = low_itself nodes r.node r.low r.least; number = at ∙ ap (λ (i : ℕ). Some i) (sym r.is) };
        is = r.is;
      }));
  least_below = λ low id w at has.
      (let r = node_known nodes n numbers id w has in
      let both : Some low ≡ Some r.on.low.id = sym at ∙ r.on.number in
      let same : low ≡ r.on.low.id = cc in
      let under = r.on.least_of.below r.node r.on.least_of.there (inl refl) in
      omega (arith, same, under, r.is));
}

module _ (nodes : List (ℕ × WireIx)) (edges : List NodeEdge) (owned : List OwnedEdge) (are : AreOwned nodes edges owned) where
  pub src_known : (o : OwnedEdge) → Has owned o → Has nodes (o.redge.src_node, o.redge.src)
  src_known o has =
      let own = (are.each o).0 has in
      subst (λ (id : ℕ). Has nodes (id, o.redge.src)) (sym own.joins.src_node) own.joins.src

  pub dst_known : (o : OwnedEdge) → Has owned o → Has nodes (o.redge.dst_node, o.redge.dst)
  dst_known o has =
      let own = (are.each o).0 has in
      subst (λ (id : ℕ). Has nodes (id, o.redge.dst)) (sym own.joins.dst_node) own.joins.dst

  apart : (i j : ℕ) (o p : OwnedEdge) → i < j → slice_get owned i ≡ Some o → slice_get owned j ≡ Some p → o.redge.src ≡ p.redge.src → o.redge.dst ≡ p.redge.dst → ⊥
  apart i j o p less at_i at_j src dst =
      let own_o = (are.each o).0 (has_at owned i o at_i) in
      let own_p = (are.each p).0 (has_at owned j p at_j) in
      let low = ordered_at (λ (a b : OwnedEdge). a.place < b.place) owned are.ascend i j o p less at_i at_j in
      own_p.first o.place own_o.edge o.redge low own_o.at own_o.joins src dst

  pub owned_once : (i j : ℕ) (o p : OwnedEdge) → slice_get owned i ≡ Some o → slice_get owned j ≡ Some p → o.redge.src ≡ p.redge.src → o.redge.dst ≡ p.redge.dst → i ≡ j
  owned_once i j o p at_i at_j src dst = by (cases_lt i j) (cases_lt j i)
    where
      by : (i < j) ⊎ (j ≤ i) → (j < i) ⊎ (i ≤ j) → i ≡ j
      by (inl less) other = absurd (apart i j o p less at_i at_j src dst)
      by (inr more) (inl less) = absurd (apart j i p o less at_j at_i (sym src) (sym dst))
      by (inr more) (inr fewer) = omega (arith, more, fewer)

pub sound_graph : (nodes : List CarriedNode) (edges : List NodeEdge) (g : WireGraph) → IsNumberingOf nodes g.numbering → AreOwned g.numbering.nodes edges g.edges →
    length g.numbering.least < 2 ^ 32 - 1 → length g.edges < 2 ^ 32 - 1 → IsSound g
sound_graph nodes edges g numbers owned few few_edges = record {
  numbering = sound_numbering nodes g.numbering numbers few;
  few = few_edges;
  ascend = owned.ascend;
  src = src_known g.numbering.nodes edges g.edges owned;
  dst = dst_known g.numbering.nodes edges g.edges owned;
  once = owned_once g.numbering.nodes edges g.edges owned;
}

-- both ends of each pair are wires that are there
pub ends_below : (n : Numbering) (owned : List OwnedEdge) → IsSoundNumbering n → ((o : OwnedEdge) → Has owned o → Has n.nodes (o.redge.src_node, o.redge.src)) →
    ((o : OwnedEdge) → Has owned o → Has n.nodes (o.redge.dst_node, o.redge.dst)) → (end : End) → EndsBelow end (length n.least) owned
ends_below n owned sound src dst Src o has = sound.nodes_within o.redge.src_node o.redge.src (src o has)
ends_below n owned sound src dst Dst o has = sound.nodes_within o.redge.dst_node o.redge.dst (dst o has)

-- a node that has a wire is in the table
wire_known : (nodes : List CarriedNode) (n : Numbering) → IsNumberingOf nodes n → HaveLows nodes → (id : ℕ) → HasWiredNode nodes id → (wire : WireIx) × Has n.nodes (id, wire)
wire_known nodes n numbers lows id wired =
    let known = on_some nodes n numbers lows wired.node wired.there wired.wired in
    (known.0, (numbers.of_node id known.0).1 (record { node = wired.node; on = known.1; is = wired.is }))

pub ends_known : (nodes : List CarriedNode) (n : Numbering) → IsNumberingOf nodes n → HaveLows nodes → (edge : NodeEdge) → HasWiredEnds nodes edge → HasKnownEnds n.nodes edge
ends_known nodes n numbers lows edge wired = record {
  src = wire_known nodes n numbers lows edge.src wired.src;
  dst = wire_known nodes n numbers lows edge.dst wired.dst;
}

pub all_wires : (nodes : List CarriedNode) (n : Numbering) → IsNumberingOf nodes n → HaveLows nodes → HasAllWires nodes n
all_wires nodes n numbers lows = record {
  each_node = λ node has wired. wire_known nodes n numbers lows node.id (record { node = node; there = has; is = refl; wired = wired });
  each_pin = λ node pin has is.
      (let known = on_some nodes n numbers lows node has (wired_pin node.carrier pin is) in
      (known.0, (numbers.of_pin pin known.0).1 (record { node = node; on = known.1; is = is })));
}

-- a node is known by its id
node_is : (nodes : List CarriedNode) → Once (map (λ m. m.id) nodes) → (x y : CarriedNode) → Has nodes x → Has nodes y → x.id ≡ y.id → x ≡ y
node_is nodes once x y has_x has_y is =
    let at_x = at_has nodes x has_x in
    let at_y = at_has nodes y has_y in
    let id_x : slice_get (map (λ (m : CarriedNode). m.id) nodes) at_x.0 ≡ Some y.id =
    slice_get-map (λ (m : CarriedNode). m.id) nodes at_x.0 ∙ (ap (option_map (λ (m : CarriedNode). m.id)) at_x.1 ∙ ap (λ (i : ℕ). Some i) is) in
    let id_y : slice_get (map (λ (m : CarriedNode). m.id) nodes) at_y.0 ≡ Some y.id =
    slice_get-map (λ (m : CarriedNode). m.id) nodes at_y.0 ∙ ap (option_map (λ (m : CarriedNode). m.id)) at_y.1 in
    let place = once_at (map (λ (m : CarriedNode). m.id) nodes) once at_x.0 at_y.0 y.id id_x id_y in
    let both : Some x ≡ Some y = sym at_x.1 ∙ (ap (λ (k : ℕ). slice_get nodes k) place ∙ at_y.1) in
    cc

pub wires_told : (nodes : List CarriedNode) (n : Numbering) → Once (map (λ m. m.id) nodes) → IsNumberingOf nodes n → TellsWires nodes n
wires_told nodes n once numbers a b v w has_a has_b at_a at_b = by (node_known nodes n numbers a.id v at_a) (node_known nodes n numbers b.id w at_b)
  where
    by : IsWireOfNode nodes n.least a.id v → IsWireOfNode nodes n.least b.id w → (v ≡ w) ↔ AreOneWire a b
    by r s = (
      λ same. (let number : Some r.on.low.id ≡ Some s.on.low.id = sym r.on.number ∙ (ap (λ (x : WireIx). slice_get n.least x.0) same ∙ s.on.number) in
          let ids : r.on.low.id ≡ s.on.low.id = cc in
          let low = node_is nodes once r.on.low s.on.low r.on.least_of.low_there s.on.least_of.low_there ids in
          let half = one_along r.node r.on.low s.on.low r.on.least_of.one (inl low) in
          let whole = one_along r.node s.on.low s.node half (one_back s.node s.on.low s.on.least_of.one) in
          one_along a r.node b (inl (sym is_a)) (one_along r.node s.node b whole (inl is_b))),
      λ one. (let inner = one_along r.node a s.node (inl is_a) (one_along a b s.node one (inl (sym is_b))) in
          let low = one_low nodes r.node s.node r.on.low s.on.low r.on.least_of s.on.least_of inner in
          least_once nodes n numbers v w s.on.low.id (r.on.number ∙ ap (λ (i : ℕ). Some i) low) s.on.number),
    )
      where
        is_a : r.node ≡ a
        is_a = node_is nodes once r.node a r.on.least_of.there has_a r.is

        is_b : s.node ≡ b
        is_b = node_is nodes once s.node b s.on.least_of.there has_b s.is
