-- What a file says makes a sound graph.
use Rattle.std.proofs.Common.{◌≡◌, ◌⊎◌, ℕ, zero, suc, Bool, true, false, List, [], ◌∷◌, Option, Some, map, slice_get, refl, sym, ap, ◌∙◌, subst, inl, inr, arith}
use Rattle.std.proofs.lemmas.Bool.{false≢true}
use Rattle.std.proofs.lemmas.Option.{slice_get_within}
use Rattle.vtr_base.specs.Lists.{Has}
use Rattle.list_laws.specs.Orders.{Once}
use Rattle.list_laws.proofs.Members.{has_at, at_has, has_map, from_map}
use Rattle.list_laws.proofs.Places.{element}
use Rattle.elem_text.specs.declared.elem.Elem.{Elem}
use Rattle.rr_items.specs.declared.carriers.CarriedNode.{CarriedNode}
use Rattle.rr_items.specs.declared.carriers.Carrier.{Carrier}
use Rattle.rr_items.specs.declared.carriers.Carrier.TheVariants.{Nothing, Own, Pin}
use Rattle.rr_items.specs.declared.carriers.TilePin.{TilePin}
use Rattle.rr_items.specs.declared.nodes.NodeKind.{NodeKind}
use Rattle.rr_items.specs.declared.nodes.NodeKind.TheVariants.{Source, Sink, Opin, Ipin, Chanx, Chany}
use Rattle.rr_items.specs.declared.nodes.Node.{Node}
use Rattle.rr_nodes.specs.Carriers.{Pins, HasPinCarrier, CarriesKind}
use Rattle.rr_nodes.specs.Placing.{ids_of}
use Rattle.rr_nodes.specs.Saying.{SaysPlaced, SaysNodes}
use Rattle.rr_nodes.specs.declared.pins.FoundPin.{FoundPin}
use Rattle.rr_nodes.specs.declared.placed.PlacedNode.{PlacedNode}
use Rattle.rr_edges.specs.EdgeItems.{Says}
use Rattle.rr_edges.specs.FileEdges.{SaysEdges, none, over, kept}
use Rattle.rr_edges.specs.Joints.{Drives, IsDriven}
use Rattle.rr_edges.specs.Known.{Known}
use Rattle.rr_edges.specs.declared.kept.FileEdge.{FileEdge}
use Rattle.rr_edges.specs.declared.table.Direction.{Direction}
use Rattle.rr_wires.specs.declared.types.NodeEdge.{NodeEdge}
use Rattle.rr_wires.specs.declared.types.OwnedEdge.{OwnedEdge}
use Rattle.rr_wires.specs.declared.types.WireIx.{WireIx}
use Rattle.rr_wires.specs.Numbering.{Numbering, WireGraph}
use Rattle.rr_wires.specs.Sound.{IsSound}
use Rattle.rr_wires.specs.Wires.{HasWire, AreOneWire, IsNumberingOf, HasWiredNode, HasWiredEnds, IsGraphOf, TellsWires}
use Rattle.rr_tables.specs.Layouts.{IsLayout, IsPinOf}
use Rattle.rr_tables.specs.Looks.{LayoutParts, pin_of, kind_of, HasKind}
use Rattle.rr_files.specs.Parts.{carried, node_edge, node_edges}
use Rattle.rr_files.specs.Sound.{HasOwner, IsSoundGraph}

-- what the parts' crates tell

pub record Rules : Type 0 where
  pub found : (l : LayoutParts) (x y ptc : ℕ) (found : FoundPin) → IsLayout l → pin_of l x y ptc ≡ Some found → IsPinOf l found.pin found.is_output
  pub one_side : (l : LayoutParts) (pin : TilePin) (s t : Bool) → IsLayout l → IsPinOf l pin s → IsPinOf l pin t → s ≡ t
  pub kinds : (nodes : List PlacedNode) (id : ℕ) (kind : NodeKind) → kind_of nodes id ≡ Some kind → HasKind nodes id kind
  pub one_wire : (nodes : List CarriedNode) (n : Numbering) → Once (map (λ m. m.id) nodes) → IsNumberingOf nodes n → TellsWires nodes n

-- lists

seen_at : (edges : List FileEdge) (n : ℕ) (edge : NodeEdge) → slice_get (node_edges edges) n ≡ Some edge → (e : FileEdge) × (slice_get edges n ≡ Some e) × (node_edge e ≡ edge)
seen_at [] n edge at = absurd (cc)
seen_at (e ∷ es) zero edge at = (e, refl, cc)
seen_at (e ∷ es) (suc n) edge at = seen_at es n edge at

pub ids_carried : (nodes : List PlacedNode) → map (λ (m : CarriedNode). m.id) (carried nodes) ≡ ids_of nodes
ids_carried [] = refl
ids_carried (n ∷ ns) = ap (λ l. n.carried.id ∷ l) (ids_carried ns)

one_id : (nodes : List PlacedNode) → Once (ids_of nodes) → (n m : PlacedNode) → Has nodes n → Has nodes m → n.carried.id ≡ m.carried.id → n ≡ m
one_id [] once n m has_n has_m same = absurd has_n
one_id (z ∷ zs) once n m (inl is_n) (inl is_m) same = is_n ∙ sym is_m
one_id (z ∷ zs) once n m (inl is_n) (inr has_m) same =
    absurd (once.0 (subst (Has (ids_of zs)) (sym same ∙ ap (λ (v : PlacedNode). v.carried.id) is_n) (has_map (λ (v : PlacedNode). v.carried.id) zs m has_m)))
one_id (z ∷ zs) once n m (inr has_n) (inl is_m) same =
    absurd (once.0 (subst (Has (ids_of zs)) (same ∙ ap (λ (v : PlacedNode). v.carried.id) is_m) (has_map (λ (v : PlacedNode). v.carried.id) zs n has_n)))
one_id (z ∷ zs) once n m (inr has_n) (inr has_m) same = one_id zs once.1 n m has_n has_m same

-- edges

kept_says : (known : Known) (es : List Elem) (edges : List FileEdge) → SaysEdges known es edges → (edge : FileEdge) → Has edges edge → (e : Elem) × Says known e (Some edge)
kept_says known _ _ none edge has = absurd has
kept_says known _ _ (over e es edges says rest) edge has = kept_says known es edges rest edge has
kept_says known _ _ (kept e es first edges says rest) edge (inl is) = (e, subst (λ v. Says known e (Some v)) (sym is) says)
kept_says known _ _ (kept e es first edges says rest) edge (inr later) = kept_says known es edges rest edge later

-- what carries a node of a kind

pin_is : (a b : TilePin) → Pin a ≡ Pin b → a ≡ b
pin_is a b same = cc

wired : (pins : Pins) (node : Node) (carrier : Carrier) (kind : NodeKind) → CarriesKind pins node kind carrier → Drives kind ⊎ IsDriven kind → HasWire carrier
wired pins node carrier Source carries (inl way) = absurd way
wired pins node carrier Source carries (inr way) = absurd way
wired pins node carrier Sink carries (inl way) = absurd way
wired pins node carrier Sink carries (inr way) = absurd way
wired pins node carrier Opin carries way = subst HasWire (sym carries.is) tt
wired pins node carrier Ipin carries way = subst HasWire (sym carries.is) tt
wired pins node carrier Chanx carries way = subst HasWire (sym carries) tt
wired pins node carrier Chany carries way = subst HasWire (sym carries) tt

-- the side of a node's pin, which is an input's where edges lead to the node
pub record HasSide (l : LayoutParts) (kind : NodeKind) (pin : TilePin) : Type 0 where
  pub is_output : Bool
  pub is : IsPinOf l pin is_output
  pub driven : IsDriven kind → is_output ≡ false

module _ (rules : Rules) (l : LayoutParts) (layout : IsLayout l) where
  on_side : (node : Node) (carrier : Carrier) (side : Bool) (pin : TilePin) → HasPinCarrier (pin_of l) node side carrier → carrier ≡ Pin pin → IsPinOf l pin side
  on_side node carrier side pin has same =
      let is : has.found.pin ≡ pin = pin_is has.found.pin pin (sym has.is ∙ same) in
      let there = rules.found l node.span.x_low node.span.y_low has.number has.found layout has.there in
      subst (λ p. IsPinOf l p side) is (subst (λ s. IsPinOf l has.found.pin s) has.side there)

  side_of : (node : Node) (carrier : Carrier) (pin : TilePin) (kind : NodeKind) → CarriesKind (pin_of l) node kind carrier → carrier ≡ Pin pin → HasSide l kind pin
  side_of node carrier pin Source carries same = (let bad : Nothing ≡ Pin pin = sym carries ∙ same in absurd (cc))
  side_of node carrier pin Sink carries same = (let bad : Nothing ≡ Pin pin = sym carries ∙ same in absurd (cc))
  side_of node carrier pin Opin carries same = record { is_output = true; is = on_side node carrier true pin carries same; driven = λ way. absurd way }
  side_of node carrier pin Ipin carries same = record { is_output = false; is = on_side node carrier false pin carries same; driven = λ way. refl }
  side_of node carrier pin Chanx carries same = (let bad : Own ≡ Pin pin = sym carries ∙ same in absurd (cc))
  side_of node carrier pin Chany carries same = (let bad : Own ≡ Pin pin = sym carries ∙ same in absurd (cc))

module _ (rules : Rules) (l : LayoutParts) (layout : IsLayout l) (elems : List Elem) (nodes : List PlacedNode) (said : SaysNodes (pin_of l) elems nodes) where
  node_says : (n : PlacedNode) → Has nodes n → (e : Elem) × SaysPlaced (pin_of l) e n
  node_says n has =
      let at = at_has nodes n has in
      let e = element elems at.0 (omega (arith, slice_get_within nodes at.0 n at.1, said.long)) in
      (e.0, said.each at.0 e.0 n e.1 at.1)

  carries : (n : PlacedNode) (says : (e : Elem) × SaysPlaced (pin_of l) e n) → CarriesKind (pin_of l) says.1.node n.at.kind n.carried.carrier
  carries n says = subst (λ k. CarriesKind (pin_of l) says.1.node k n.carried.carrier) (sym says.1.is.kind) says.1.is.carrier

  node_side : (n : PlacedNode) → Has nodes n → (pin : TilePin) → n.carried.carrier ≡ Pin pin → HasSide l n.at.kind pin
  node_side n has pin same = (let says = node_says n has in side_of rules l layout says.1.node n.carried.carrier pin n.at.kind (carries n says) same)

  -- a node of this id and this kind has a wire
  wired_node : (id : ℕ) (kind : NodeKind) → kind_of nodes id ≡ Some kind → Drives kind ⊎ IsDriven kind → HasWiredNode (carried nodes) id
  wired_node id kind found way =
      let of_kind = rules.kinds nodes id kind found in
      let says = node_says of_kind.node of_kind.has in
      record {
        node = of_kind.node.carried;
        there = has_map (λ (v : PlacedNode). v.carried) nodes of_kind.node of_kind.has;
        is = of_kind.named;
        wired = wired (pin_of l) says.1.node of_kind.node.carried.carrier kind (subst (λ k. CarriesKind (pin_of l) says.1.node k of_kind.node.carried.carrier) of_kind.is (carries of_kind.node says)) way;
      }

  module _ (ways : ℕ → Option Direction) (root_edges : List Elem) (edges : List FileEdge) (edges_said : SaysEdges (record { kind = kind_of nodes; ways = ways }) root_edges edges) where
    pub wired_ends : (e : FileEdge) → Has edges e → HasWiredEnds (carried nodes) (node_edge e)
    wired_ends e has =
        let says = kept_says (record { kind = kind_of nodes; ways = ways }) root_edges edges edges_said e has in
        let names = says.1.0 in
        record { src = wired_node e.src names.from names.source (inl names.joins.0); dst = wired_node e.dst names.to names.sink (inr names.joins.1) }

    module _ (wires : WireGraph) (graph : IsGraphOf (carried nodes) (node_edges edges) wires) where
      owners : (owned : OwnedEdge) → Has wires.edges owned → HasOwner edges owned
      owners owned has =
          let owner = (graph.owned.each owned).0 has in
          let seen = seen_at edges owned.place owner.edge owner.at in
          record {
            edge = seen.0;
            at = seen.1;
            src = owner.joins.src_node ∙ ap (λ (e : NodeEdge). e.src) (sym seen.2);
            dst = owner.joins.dst_node ∙ ap (λ (e : NodeEdge). e.dst) (sym seen.2);
            switch = owner.joins.switch ∙ ap (λ (e : NodeEdge). e.switch) (sym seen.2);
          }

      all_wired : (id : ℕ) (wire : WireIx) → Has wires.numbering.nodes (id, wire) → HasWiredNode (carried nodes) id
      all_wired id wire has =
          let on = (graph.numbering.of_node id wire).0 has in
          record { node = on.node; there = on.on.least_of.there; is = on.is; wired = on.on.least_of.wired }

      pins : (pin : TilePin) (wire : WireIx) → Has wires.numbering.pins (pin, wire) → (is_output : Bool) × IsPinOf l pin is_output
      pins pin wire has =
          let on = (graph.numbering.of_pin pin wire).0 has in
          let from = from_map (λ (v : PlacedNode). v.carried) nodes on.node on.on.least_of.there in
          let side = node_side from.item from.has pin (ap (λ (m : CarriedNode). m.carrier) (sym from.is) ∙ on.is) in
          (side.is_output, side.is)

      -- both nodes are of one wire, and one of a pin, so the other is too
      pin_along : (a b : CarriedNode) (pin : TilePin) → AreOneWire a b → a.carrier ≡ Pin pin → b.carrier ≡ Pin pin
      pin_along a b pin (inl same) is = ap (λ (m : CarriedNode). m.carrier) (sym same) ∙ is
      pin_along a b pin (inr two) is = two.2 ∙ (sym two.1 ∙ is)

      into_outputs : (pin : TilePin) (wire : WireIx) (owned : OwnedEdge) → Has wires.numbering.pins (pin, wire) → IsPinOf l pin true → Has wires.edges owned →
          owned.redge.dst ≡ wire → ⊥
      into_outputs pin wire owned has_pin output has_owned leads =
          let on = (graph.numbering.of_pin pin wire).0 has_pin in
          let owner = (graph.owned.each owned).0 has_owned in
          let end = (graph.numbering.of_node owner.edge.dst owned.redge.dst).0 owner.joins.dst in
          let end_there : Has wires.numbering.nodes (end.node.id, owned.redge.dst) = subst (λ id. Has wires.numbering.nodes (id, owned.redge.dst)) (sym end.is) owner.joins.dst in
          let pin_there = (graph.numbering.of_node on.node.id wire).1 (record { node = on.node; on = on.on; is = refl }) in
          let one = (rules.one_wire (carried nodes) wires.numbering (subst Once (sym (ids_carried nodes)) said.once) graph.numbering on.node end.node wire owned.redge.dst
          on.on.least_of.there end.on.least_of.there pin_there end_there).0 (sym leads) in
          let from = from_map (λ (v : PlacedNode). v.carried) nodes end.node end.on.least_of.there in
          let carrier = ap (λ (m : CarriedNode). m.carrier) (sym from.is) ∙ pin_along on.node end.node pin one on.is in
          let side = node_side from.item from.has pin carrier in
          let seen = seen_at edges owned.place owner.edge owner.at in
          let names = (kept_says (record { kind = kind_of nodes; ways = ways }) root_edges edges edges_said seen.0 (has_at edges owned.place seen.0 seen.1)).1.0 in
          let of_kind = rules.kinds nodes seen.0.dst names.to names.sink in
          let same_id = ap (λ (m : CarriedNode). m.id) (sym from.is) ∙ (end.is ∙ (ap (λ (e : NodeEdge). e.dst) (sym seen.2) ∙ sym of_kind.named)) in
          let same = one_id nodes said.once from.item of_kind.node from.has of_kind.has same_id in
          let driven : IsDriven from.item.at.kind = subst IsDriven (sym (ap (λ (v : PlacedNode). v.at.kind) same ∙ of_kind.is)) names.joins.1 in
          false≢true (sym (side.driven driven) ∙ rules.one_side l pin side.is_output true layout side.is output)

      pub sound : IsSound wires → IsSoundGraph (record { layout = l; nodes = nodes; edges = edges; wires = wires })
      sound is_sound = record {
        layout = layout;
        once = said.once;
        wires = is_sound;
        owners = owners;
        wired = all_wired;
        pins = pins;
        none_into_outputs = into_outputs;
      }
