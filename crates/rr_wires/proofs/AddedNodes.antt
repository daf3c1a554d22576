-- One more node in the numbering of wires.
use Rattle.std.proofs.Common.{◌≡◌, ◌<◌, ◌≤◌, ◌+◌, ◌⊎◌, ℕ, List, [], ◌∷◌, ◌++◌, Some, length, slice_get, refl, sym, ap, ◌∙◌, subst, inl, inr, arith}
use Rattle.std.proofs.lemmas.List.{length_push}
use Rattle.std.proofs.lemmas.Option.{slice_get_within}
use Rattle.vtr_base.specs.Lists.{Has}
use Rattle.list_laws.specs.Orders.{Ordered, HaveSame}
use Rattle.list_laws.proofs.Members.{has_left, has_last, has_at, at_has, has_pushed}
use Rattle.list_laws.proofs.Places.{get_front, get_after, get_either}
use Rattle.rr_items.specs.declared.carriers.TilePin.{TilePin}
use Rattle.rr_items.specs.declared.carriers.Carrier.{Carrier}
use Rattle.rr_items.specs.declared.carriers.Carrier.TheVariants.{Nothing, Own, Pin}
use Rattle.rr_items.specs.declared.carriers.CarriedNode.{CarriedNode}
use Rattle.rr_wires.specs.declared.types.WireIx.{WireIx}
use Rattle.rr_wires.specs.Numbering.{Numbering}
use Rattle.rr_wires.specs.Wires.{HasWire, AreOneWire, IsLeastOf, IsLeastId, IsOnWire, IsWireOfNode, IsWireOfPin, IsNumberingOf, no_wires}
use Rattle.rr_wires.specs.Steps.{with_node, with_wire, with_pin, next_wire, AddsWire, AddsPinNode, AddsTo, AddsNode, HaveLows}
use Rattle.rr_wires.proofs.Keys.{numbering, entry, pin_entry, wire_ix, wire_same}
use Rattle.rr_wires.proofs.Orders.{ordered_pushed, one_place}
use Rattle.rr_wires.proofs.Lows.{wired_pin, wired_along, pin_along, low_itself, one_low, low_moves, StartsWire, IsFirst, IsJoined, low_stays, low_first, low_joined, low_cases}

only_has : (x y : ℕ) → Has (x ∷ []) y → y ≡ x
only_has x y (inl is) = is
only_has x y (inr none) = absurd none

only_place : (x : ℕ) (j y : ℕ) → slice_get (x ∷ []) j ≡ Some y → j ≡ 0
only_place x j y at = let within : j < 1 = slice_get_within (x ∷ []) j y at in omega (arith, within)

pub not_below : (n : ℕ) → n < n → ⊥
not_below n less = absurd (omega (arith, less))

pub none_numbered : IsNumberingOf [] no_wires
none_numbered = record {
  ascend = tt;
  least = λ id. (λ has. absurd has, λ r. absurd r.least.there);
  nodes_ascend = tt;
  of_node = λ id w. (λ has. absurd has, λ r. absurd r.on.least_of.there);
  pins_ascend = tt;
  of_pin = λ pin w. (λ has. absurd has, λ r. absurd r.on.least_of.there);
}

module _ (done : List CarriedNode) (old : Numbering) (numbers : IsNumberingOf done old) where
  -- what the tables say before
  pub node_known : (id : ℕ) (w : WireIx) → Has old.nodes (id, w) → IsWireOfNode done old.least id w
  node_known id w has = (numbers.of_node id w).0 has

  pub pin_known : (pin : TilePin) (w : WireIx) → Has old.pins (pin, w) → IsWireOfPin done old.least pin w
  pin_known pin w has = (numbers.of_pin pin w).0 has

  pub wire_within : (node : CarriedNode) (w : WireIx) → IsOnWire done old.least node w → w.0 < length old.least
  wire_within node w on = slice_get_within old.least w.0 on.low.id on.number

  pub least_once : (v w : WireIx) (id : ℕ) → slice_get old.least v.0 ≡ Some id → slice_get old.least w.0 ≡ Some id → v ≡ w
  least_once v w id at_v at_w = wire_same v w (one_place ◌<◌ not_below old.least numbers.ascend v.0 w.0 id at_v at_w)

-- a node that has a wire is on one with a number
pub on_some : (done : List CarriedNode) (old : Numbering) → IsNumberingOf done old → HaveLows done → (n : CarriedNode) → Has done n → HasWire n.carrier → (w : WireIx) × IsOnWire done old.least n w
on_some done old numbers lows n has wired =
    let low = lows n has wired in
    let there = (numbers.least low.0.id).1 (record { node = n; low = low.0; least = low.1; is = refl }) in
    let at = at_has old.least low.0.id there in
    (wire_ix at.0, record { low = low.0; least_of = low.1; number = at.1 })

module _ (done : List CarriedNode) (node : CarriedNode) (above : (m : CarriedNode) → Has done m → m.id < node.id) (lows : HaveLows done) (old : Numbering) (numbers : IsNumberingOf done old) where
  abbrev all : List CarriedNode
  all = done ++ node ∷ []

  -- what was said of the nodes before still holds

  least_keeps : (id : ℕ) → Has old.least id → IsLeastId all id
  least_keeps id has =
      let r = (numbers.least id).0 has in
      record { node = r.node; low = r.low; least = low_stays done node above r.node r.low r.least; is = r.is }

  on_keeps : (more : List ℕ) (n : CarriedNode) (w : WireIx) → IsOnWire done old.least n w → IsOnWire all (old.least ++ more) n w
  on_keeps more n w on = record {
    low = on.low;
    least_of = low_stays done node above n on.low on.least_of;
    number = get_front old.least more w.0 on.low.id on.number;
  }

  node_keeps : (more : List ℕ) (id : ℕ) (w : WireIx) → Has old.nodes (id, w) → IsWireOfNode all (old.least ++ more) id w
  node_keeps more id w has =
      let r = node_known done old numbers id w has in
      record { node = r.node; on = on_keeps more r.node w r.on; is = r.is }

  pin_keeps : (more : List ℕ) (pin : TilePin) (w : WireIx) → Has old.pins (pin, w) → IsWireOfPin all (old.least ++ more) pin w
  pin_keeps more pin w has =
      let r = pin_known done old numbers pin w has in
      record { node = r.node; on = on_keeps more r.node w r.on; is = r.is }

  -- the tables' ids are those of nodes before

  least_low : (id : ℕ) → Has old.least id → id < node.id
  least_low id has =
      let r = (numbers.least id).0 has in
      omega (arith, above r.low r.least.low_there, r.is)

  pub node_low : (id : ℕ) (w : WireIx) → Has old.nodes (id, w) → id < node.id
  node_low id w has =
      let r = node_known done old numbers id w has in
      omega (arith, above r.node r.on.least_of.there, r.is)

  nodes_rise : (w : WireIx) → Ordered (λ (p q : ℕ × WireIx). p.0 < q.0) (old.nodes ++ (node.id, w) ∷ [])
  nodes_rise w = ordered_pushed (λ (p q : ℕ × WireIx). p.0 < q.0) old.nodes (node.id, w) numbers.nodes_ascend (λ p has. node_low p.0 p.1 has)

  -- a wire of nodes before has its number from before
  number_before : (n low : CarriedNode) (w : WireIx) → IsLeastOf done n low → slice_get (old.least ++ node.id ∷ []) w.0 ≡ Some low.id → IsOnWire done old.least n w
  number_before n low w least at = by (get_either old.least (node.id ∷ []) w.0 low.id at)
    where
      by : (slice_get old.least w.0 ≡ Some low.id) ⊎ ((j : ℕ) × (w.0 ≡ length old.least + j) × (slice_get (node.id ∷ []) j ≡ Some low.id)) → IsOnWire done old.least n w
      by (inl front) = record { low = low; least_of = least; number = front }
      by (inr last) =
          let is = only_has node.id low.id (has_at (node.id ∷ []) last.0 low.id last.2) in
          absurd (omega (arith, above low least.low_there, is))

  -- the new wire has the next number
  number_last : (w : WireIx) → slice_get (old.least ++ node.id ∷ []) w.0 ≡ Some node.id → w ≡ next_wire old
  number_last w at = by (get_either old.least (node.id ∷ []) w.0 node.id at)
    where
      by : (slice_get old.least w.0 ≡ Some node.id) ⊎ ((j : ℕ) × (w.0 ≡ length old.least + j) × (slice_get (node.id ∷ []) j ≡ Some node.id)) → w ≡ next_wire old
      by (inl front) = absurd (not_below node.id (least_low node.id (has_at old.least w.0 node.id front)))
      by (inr last) = wire_same w (next_wire old) (omega (arith, last.1, only_place node.id last.0 node.id last.2))

  module _ (starts : StartsWire done node) where
    on_new : IsOnWire all (old.least ++ node.id ∷ []) node (next_wire old)
    on_new = record {
      low = node;
      least_of = low_first done node above starts;
      number = get_after old.least [] node.id (length old.least) refl;
    }

    not_joined : (n low : CarriedNode) → IsJoined done node n low → ⊥
    not_joined n low j = starts.none low j.least.there (inr (j.pin, j.node_pin, j.low_pin))

    least_start : (id : ℕ) → IsLeastId all id → Has (old.least ++ node.id ∷ []) id
    least_start id r = by (low_cases done node above r.node r.low r.least)
      where
        by : IsLeastOf done r.node r.low ⊎ (IsFirst done node r.node r.low ⊎ IsJoined done node r.node r.low) → Has (old.least ++ node.id ∷ []) id
        by (inl before) = has_left old.least (node.id ∷ []) id ((numbers.least id).1 (record { node = r.node; low = r.low; least = before; is = r.is }))
        by (inr (inl first)) =
            subst (λ (i : ℕ). Has (old.least ++ node.id ∷ []) i) (sym (ap (λ (m : CarriedNode). m.id) first.low_is) ∙ r.is) (has_last old.least node.id)
        by (inr (inr joined)) = absurd (not_joined r.node r.low joined)

    -- a wire in the longer list is one from before, or the new node's own
    on_start : (n : CarriedNode) (w : WireIx) → IsOnWire all (old.least ++ node.id ∷ []) n w → IsOnWire done old.least n w ⊎ ((n ≡ node) × (w ≡ next_wire old))
    on_start n w on = by (low_cases done node above n on.low on.least_of)
      where
        by : IsLeastOf done n on.low ⊎ (IsFirst done node n on.low ⊎ IsJoined done node n on.low) → IsOnWire done old.least n w ⊎ ((n ≡ node) × (w ≡ next_wire old))
        by (inl before) = inl (number_before n on.low w before on.number)
        by (inr (inl first)) = inr (first.n_is, number_last w (on.number ∙ ap (λ (m : CarriedNode). Some m.id) first.low_is))
        by (inr (inr joined)) = absurd (not_joined n on.low joined)

    node_start : (id : ℕ) (w : WireIx) → IsWireOfNode all (old.least ++ node.id ∷ []) id w → Has (old.nodes ++ (node.id, next_wire old) ∷ []) (id, w)
    node_start id w r = by (on_start r.node w r.on)
      where
        by : IsOnWire done old.least r.node w ⊎ ((r.node ≡ node) × (w ≡ next_wire old)) → Has (old.nodes ++ (node.id, next_wire old) ∷ []) (id, w)
        by (inl on) = has_left old.nodes ((node.id, next_wire old) ∷ []) (id, w) ((numbers.of_node id w).1 (record { node = r.node; on = on; is = r.is }))
        by (inr last) =
            let here : id ≡ node.id = sym r.is ∙ ap (λ (m : CarriedNode). m.id) last.0 in
            subst (λ (p : ℕ × WireIx). Has (old.nodes ++ (node.id, next_wire old) ∷ []) p)
            (ap (λ (i : ℕ). (i, next_wire old)) (sym here) ∙ ap (λ (v : WireIx). (id, v)) (sym last.1)) (has_last old.nodes (node.id, next_wire old))

    node_started : (id : ℕ) (w : WireIx) → Has (old.nodes ++ (node.id, next_wire old) ∷ []) (id, w) → IsWireOfNode all (old.least ++ node.id ∷ []) id w
    node_started id w has = by (has_pushed old.nodes (node.id, next_wire old) (id, w) has)
      where
        by : Has old.nodes (id, w) ⊎ (entry id w ≡ entry node.id (next_wire old)) → IsWireOfNode all (old.least ++ node.id ∷ []) id w
        by (inl front) = node_keeps (node.id ∷ []) id w front
        by (inr is) = record {
          node = node;
          on = subst (λ (v : WireIx). IsOnWire all (old.least ++ node.id ∷ []) node v) (sym (ap (λ (p : ℕ × WireIx). p.1) is)) on_new;
          is = sym (ap (λ (p : ℕ × WireIx). p.0) is);
        }

    least_started : (id : ℕ) → Has (old.least ++ node.id ∷ []) id → IsLeastId all id
    least_started id has = by (has_pushed old.least node.id id has)
      where
        by : Has old.least id ⊎ (id ≡ node.id) → IsLeastId all id
        by (inl front) = least_keeps id front
        by (inr is) = record { node = node; low = node; least = low_first done node above starts; is = sym is }

    -- the node starts a wire; its pin, if it has one, is told too
    start_wire : (pins : List (TilePin × WireIx)) → Ordered (λ (p q : TilePin × WireIx). p.1.0 < q.1.0) pins →
        ((pin : TilePin) (w : WireIx) → Has pins (pin, w) → Has old.pins (pin, w) ⊎ ((node.carrier ≡ Pin pin) × (w ≡ next_wire old))) →
        ((pin : TilePin) (w : WireIx) → Has old.pins (pin, w) → Has pins (pin, w)) →
        ((pin : TilePin) → node.carrier ≡ Pin pin → Has pins (pin, next_wire old)) →
        IsNumberingOf all (numbering (old.least ++ node.id ∷ []) (old.nodes ++ (node.id, next_wire old) ∷ []) pins)
    start_wire pins rise from keep own = record {
      ascend = ordered_pushed ◌<◌ old.least node.id numbers.ascend least_low;
      least = λ id. (least_started id, least_start id);
      nodes_ascend = nodes_rise (next_wire old);
      of_node = λ id w. (node_started id w, node_start id w);
      pins_ascend = rise;
      of_pin = λ pin w. (λ has. forth pin w (from pin w has), λ r. back pin w r (on_start r.node w r.on));
    }
      where
        forth : (pin : TilePin) (w : WireIx) → Has old.pins (pin, w) ⊎ ((node.carrier ≡ Pin pin) × (w ≡ next_wire old)) → IsWireOfPin all (old.least ++ node.id ∷ []) pin w
        forth pin w (inl front) = pin_keeps (node.id ∷ []) pin w front
        forth pin w (inr last) = record {
          node = node;
          on = subst (λ (v : WireIx). IsOnWire all (old.least ++ node.id ∷ []) node v) (sym last.1) on_new;
          is = last.0;
        }

        back : (pin : TilePin) (w : WireIx) (r : IsWireOfPin all (old.least ++ node.id ∷ []) pin w) → IsOnWire done old.least r.node w ⊎ ((r.node ≡ node) × (w ≡ next_wire old)) → Has pins (pin, w)
        back pin w r (inl on) = keep pin w ((numbers.of_pin pin w).1 (record { node = r.node; on = on; is = r.is }))
        back pin w r (inr last) =
            subst (λ (v : WireIx). Has pins (pin, v)) (sym last.1) (own pin (sym (ap (λ (m : CarriedNode). m.carrier) last.0) ∙ r.is))

  -- a node of its own
  pub own_starts : node.carrier ≡ Own → StartsWire done node
  own_starts is = record {
    wired = subst HasWire (sym is) tt;
    none = λ m has one. by m has one;
  }
    where
      by : (m : CarriedNode) → Has done m → AreOneWire node m → ⊥
      by m has (inl same) = absurd (omega (arith, above m has, ap (λ (o : CarriedNode). o.id) same))
      by m has (inr pins) = let no : Own ≡ Pin pins.0 = sym is ∙ pins.1 in absurd (cc)

  pub add_own : node.carrier ≡ Own → IsNumberingOf all (with_node (with_wire old node.id) node.id (next_wire old))
  add_own is =
      start_wire (own_starts is) old.pins numbers.pins_ascend (λ pin w has. inl has) (λ pin w has. has)
      (λ pin other. (let no : Own ≡ Pin pin = sym is ∙ other in absurd (cc)))

  -- the first node of a tile pin
  pub pin_starts : (pin : TilePin) → node.carrier ≡ Pin pin → ((w : WireIx) → Has old.pins (pin, w) → ⊥) → StartsWire done node
  pin_starts pin is fresh = record {
    wired = wired_pin node.carrier pin is;
    none = λ m has one. by m has one;
  }
    where
      by : (m : CarriedNode) → Has done m → AreOneWire node m → ⊥
      by m has one =
          let known = on_some done old numbers lows m has (wired_along node m (wired_pin node.carrier pin is) one) in
          fresh known.0 ((numbers.of_pin pin known.0).1 (record { node = m; on = known.1; is = pin_along node m pin is one }))

  pub add_pin : (pin : TilePin) → node.carrier ≡ Pin pin → ((w : WireIx) → Has old.pins (pin, w) → ⊥) →
      IsNumberingOf all (with_node (with_pin (with_wire old node.id) pin (next_wire old)) node.id (next_wire old))
  add_pin pin is fresh =
      start_wire (pin_starts pin is fresh) (old.pins ++ (pin, next_wire old) ∷ [])
      (ordered_pushed (λ (p q : TilePin × WireIx). p.1.0 < q.1.0) old.pins (pin, next_wire old) numbers.pins_ascend
      (λ p has. wire_within done old numbers (pin_known done old numbers p.0 p.1 has).node p.1 (pin_known done old numbers p.0 p.1 has).on))
      (λ q w has. from q w (has_pushed old.pins (pin, next_wire old) (q, w) has))
      (λ q w has. has_left old.pins ((pin, next_wire old) ∷ []) (q, w) has)
      (λ q other. (let same : pin ≡ q = one_pin q other in subst (λ (t : TilePin). Has (old.pins ++ (pin, next_wire old) ∷ []) (t, next_wire old)) same (has_last old.pins (pin, next_wire old))))
    where
      one_pin : (q : TilePin) → node.carrier ≡ Pin q → pin ≡ q
      one_pin q other = let both : Pin pin ≡ Pin q = sym is ∙ other in cc

      from : (q : TilePin) (w : WireIx) → Has old.pins (q, w) ⊎ (pin_entry q w ≡ pin_entry pin (next_wire old)) → Has old.pins (q, w) ⊎ ((node.carrier ≡ Pin q) × (w ≡ next_wire old))
      from q w (inl front) = inl front
      from q w (inr last) = inr (is ∙ ap Pin (sym (ap (λ (p : TilePin × WireIx). p.0) last)), ap (λ (p : TilePin × WireIx). p.1) last)

  -- a further node of a tile pin, whose wire's least node is `low`
  module _ (pin : TilePin) (wire : WireIx) (low : CarriedNode) (is : node.carrier ≡ Pin pin) (low_pin : low.carrier ≡ Pin pin)
      (low_least : IsLeastOf done low low) (number : slice_get old.least wire.0 ≡ Some low.id) where
    joined_low : (n other : CarriedNode) → IsJoined done node n other → other.id ≡ low.id
    joined_low n other j =
        let same : Pin j.pin ≡ Pin pin = sym j.node_pin ∙ is in
        one_low done other low other low j.least low_least (inr (pin, j.low_pin ∙ same, low_pin))

    not_first : (n other : CarriedNode) → IsFirst done node n other → ⊥
    not_first n other first = first.starts.none low low_least.there (inr (pin, is, low_pin))

    on_joined : IsOnWire all old.least node wire
    on_joined = record { low = low; least_of = low_joined done node above pin low is low_pin low_least; number = number }

    same_wire : (n : CarriedNode) (w : WireIx) → IsOnWire all old.least n w → IsOnWire done old.least n w ⊎ ((n ≡ node) × (w ≡ wire))
    same_wire n w on = by (low_cases done node above n on.low on.least_of)
      where
        by : IsLeastOf done n on.low ⊎ (IsFirst done node n on.low ⊎ IsJoined done node n on.low) → IsOnWire done old.least n w ⊎ ((n ≡ node) × (w ≡ wire))
        by (inl before) = inl (record { low = on.low; least_of = before; number = on.number })
        by (inr (inl first)) = absurd (not_first n on.low first)
        by (inr (inr joined)) = inr (joined.n_is, least_once done old numbers w wire low.id (on.number ∙ ap (λ (i : ℕ). Some i) (joined_low n on.low joined)) number)

    least_join : (id : ℕ) → IsLeastId all id → Has old.least id
    least_join id r = by (low_cases done node above r.node r.low r.least)
      where
        by : IsLeastOf done r.node r.low ⊎ (IsFirst done node r.node r.low ⊎ IsJoined done node r.node r.low) → Has old.least id
        by (inl before) = (numbers.least id).1 (record { node = r.node; low = r.low; least = before; is = r.is })
        by (inr (inl first)) = absurd (not_first r.node r.low first)
        by (inr (inr joined)) = (numbers.least id).1 (record { node = r.low; low = r.low; least = joined.least; is = r.is })

    kept : (n : CarriedNode) (w : WireIx) → IsOnWire done old.least n w → IsOnWire all old.least n w
    kept n w on = record { low = on.low; least_of = low_stays done node above n on.low on.least_of; number = on.number }

    node_joined : (id : ℕ) (w : WireIx) → Has old.nodes (id, w) ⊎ (entry id w ≡ entry node.id wire) → IsWireOfNode all old.least id w
    node_joined id w (inl front) =
        let r = node_known done old numbers id w front in
        record { node = r.node; on = kept r.node w r.on; is = r.is }
    node_joined id w (inr last) = record {
      node = node;
      on = subst (λ (v : WireIx). IsOnWire all old.least node v) (sym (ap (λ (p : ℕ × WireIx). p.1) last)) on_joined;
      is = sym (ap (λ (p : ℕ × WireIx). p.0) last);
    }

    node_join : (id : ℕ) (w : WireIx) (r : IsWireOfNode all old.least id w) → IsOnWire done old.least r.node w ⊎ ((r.node ≡ node) × (w ≡ wire)) → Has (old.nodes ++ (node.id, wire) ∷ []) (id, w)
    node_join id w r (inl on) = has_left old.nodes ((node.id, wire) ∷ []) (id, w) ((numbers.of_node id w).1 (record { node = r.node; on = on; is = r.is }))
    node_join id w r (inr last) =
        let here : id ≡ node.id = sym r.is ∙ ap (λ (m : CarriedNode). m.id) last.0 in
        subst (λ (p : ℕ × WireIx). Has (old.nodes ++ (node.id, wire) ∷ []) p)
        (ap (λ (i : ℕ). (i, wire)) (sym here) ∙ ap (λ (v : WireIx). (id, v)) (sym last.1)) (has_last old.nodes (node.id, wire))

    pin_joined : (q : TilePin) (w : WireIx) → Has old.pins (q, w) → IsWireOfPin all old.least q w
    pin_joined q w has =
        let r = pin_known done old numbers q w has in
        record { node = r.node; on = kept r.node w r.on; is = r.is }

    pin_join : (q : TilePin) (w : WireIx) (r : IsWireOfPin all old.least q w) → IsOnWire done old.least r.node w ⊎ ((r.node ≡ node) × (w ≡ wire)) → Has old.pins (q, w)
    pin_join q w r (inl on) = (numbers.of_pin q w).1 (record { node = r.node; on = on; is = r.is })
    pin_join q w r (inr last) =
        let same : Pin pin ≡ Pin q = sym is ∙ (sym (ap (λ (m : CarriedNode). m.carrier) last.0) ∙ r.is) in
        (numbers.of_pin q w).1 (record {
          node = low;
          on = record { low = low; least_of = low_least; number = ap (λ (v : WireIx). slice_get old.least v.0) last.1 ∙ number };
          is = low_pin ∙ same;
        })

    pub join_wire : IsNumberingOf all (with_node old node.id wire)
    join_wire = record {
      ascend = numbers.ascend;
      least = λ id. (least_keeps id, least_join id);
      nodes_ascend = nodes_rise wire;
      of_node = λ id w. (λ has. node_joined id w (has_pushed old.nodes (node.id, wire) (id, w) has), λ r. node_join id w r (same_wire r.node w r.on));
      pins_ascend = numbers.pins_ascend;
      of_pin = λ q w. (pin_joined q w, λ r. pin_join q w r (same_wire r.node w r.on));
    }

  -- the pin's wire has a least node of the pin
  pub add_joined : (pin : TilePin) (wire : WireIx) → node.carrier ≡ Pin pin → Has old.pins (pin, wire) → IsNumberingOf all (with_node old node.id wire)
  add_joined pin wire is has =
      let known = pin_known done old numbers pin wire has in
      join_wire pin wire known.on.low is (pin_along known.node known.on.low pin known.is known.on.least_of.one)
      (low_itself done known.node known.on.low known.on.least_of) known.on.number

  -- a node without a wire
  pub add_nothing : node.carrier ≡ Nothing → IsNumberingOf all old
  add_nothing is = record {
    ascend = numbers.ascend;
    least = λ id. (least_keeps id, λ r. (numbers.least id).1 (record { node = r.node; low = r.low; least = shorter r.node r.low r.least; is = r.is }));
    nodes_ascend = numbers.nodes_ascend;
    of_node = λ id w. (
      λ has. (let r = node_known done old numbers id w has in record { node = r.node; on = longer_on r.node w r.on; is = r.is }),
      λ r. (numbers.of_node id w).1 (record { node = r.node; on = shorter_on r.node w r.on; is = r.is }),
    );
    pins_ascend = numbers.pins_ascend;
    of_pin = λ q w. (
      λ has. (let r = pin_known done old numbers q w has in record { node = r.node; on = longer_on r.node w r.on; is = r.is }),
      λ r. (numbers.of_pin q w).1 (record { node = r.node; on = shorter_on r.node w r.on; is = r.is }),
    );
  }
    where
      unwired : HasWire node.carrier → ⊥
      unwired wired = subst HasWire is wired

      shorter : (n low : CarriedNode) → IsLeastOf all n low → IsLeastOf done n low
      shorter n low least = by (low_cases done node above n low least)
        where
          by : IsLeastOf done n low ⊎ (IsFirst done node n low ⊎ IsJoined done node n low) → IsLeastOf done n low
          by (inl before) = before
          by (inr (inl first)) = absurd (unwired first.starts.wired)
          by (inr (inr joined)) = absurd (unwired (wired_pin node.carrier joined.pin joined.node_pin))

      shorter_on : (n : CarriedNode) (w : WireIx) → IsOnWire all old.least n w → IsOnWire done old.least n w
      shorter_on n w on = record { low = on.low; least_of = shorter n on.low on.least_of; number = on.number }

      longer_on : (n : CarriedNode) (w : WireIx) → IsOnWire done old.least n w → IsOnWire all old.least n w
      longer_on n w on = record { low = on.low; least_of = low_stays done node above n on.low on.least_of; number = on.number }

  -- what `add` does

  pub add_step : (carrier : Carrier) → node.carrier ≡ carrier → (new : Numbering) → AddsTo old node.id carrier new → IsNumberingOf all new
  add_step Nothing is new added = subst (λ (n : Numbering). IsNumberingOf all n) (sym added) (add_nothing is)
  add_step Own is new added = subst (λ (n : Numbering). IsNumberingOf all n) (sym added) (add_own is)
  add_step (Pin pin) is new (inl joined) = subst (λ (n : Numbering). IsNumberingOf all n) (sym joined.2) (add_joined pin joined.0 is joined.1)
  add_step (Pin pin) is new (inr first) = subst (λ (n : Numbering). IsNumberingOf all n) (sym first.1) (add_pin pin is first.0)

  own_low : (carrier : Carrier) → node.carrier ≡ carrier → (new : Numbering) → AddsTo old node.id carrier new → HasWire node.carrier → (low : CarriedNode) × IsLeastOf all node low
  own_low Nothing is new added wired = absurd (subst HasWire is wired)
  own_low Own is new added wired = (node, low_first done node above (own_starts is))
  own_low (Pin pin) is new (inl joined) wired =
      let known = pin_known done old numbers pin joined.0 joined.1 in (
        known.on.low,
        low_joined done node above pin known.on.low is (pin_along known.node known.on.low pin known.is known.on.least_of.one)
            (low_itself done known.node known.on.low known.on.least_of),
      )
  own_low (Pin pin) is new (inr first) wired = (node, low_first done node above (pin_starts pin is first.0))

  pub lows_step : (new : Numbering) → AddsNode old node new → HaveLows all
  lows_step new added n has wired = by n wired (has_pushed done node n has)
    where
      by : (n : CarriedNode) → HasWire n.carrier → Has done n ⊎ (n ≡ node) → (low : CarriedNode) × IsLeastOf all n low
      by n wired (inl front) = let r = lows n front wired in (r.0, low_stays done node above n r.0 r.1)
      by n wired (inr is) =
          subst (λ (m : CarriedNode). (low : CarriedNode) × IsLeastOf all m low) (sym is)
          (own_low node.carrier refl new added (subst (λ (m : CarriedNode). HasWire m.carrier) is wired))

pub few_step : (old : Numbering) (id : ℕ) (carrier : Carrier) (new : Numbering) → AddsTo old id carrier new → length new.least ≤ length old.least + 1
few_step old id Nothing new added = let same = ap (λ (n : Numbering). length n.least) added in omega (arith, same)
few_step old id Own new added = let same = ap (λ (n : Numbering). length n.least) added in omega (arith, same, length_push old.least id)
few_step old id (Pin pin) new (inl joined) = let same = ap (λ (n : Numbering). length n.least) joined.2 in omega (arith, same)
few_step old id (Pin pin) new (inr first) = let same = ap (λ (n : Numbering). length n.least) first.1 in omega (arith, same, length_push old.least id)

-- the same nodes in another order
pub numbering_moves : (xs ys : List CarriedNode) → HaveSame xs ys → (n : Numbering) → IsNumberingOf ys n → IsNumberingOf xs n
numbering_moves xs ys same n numbers = record {
  ascend = numbers.ascend;
  least = λ id. (
    λ has. (let r = (numbers.least id).0 has in record { node = r.node; low = r.low; least = low_moves ys xs other r.node r.low r.least; is = r.is }),
    λ r. (numbers.least id).1 (record { node = r.node; low = r.low; least = low_moves xs ys same r.node r.low r.least; is = r.is }),
  );
  nodes_ascend = numbers.nodes_ascend;
  of_node = λ id w. (
    λ has. (let r = (numbers.of_node id w).0 has in record { node = r.node; on = on_moves ys xs other r.node w r.on; is = r.is }),
    λ r. (numbers.of_node id w).1 (record { node = r.node; on = on_moves xs ys same r.node w r.on; is = r.is }),
  );
  pins_ascend = numbers.pins_ascend;
  of_pin = λ pin w. (
    λ has. (let r = (numbers.of_pin pin w).0 has in record { node = r.node; on = on_moves ys xs other r.node w r.on; is = r.is }),
    λ r. (numbers.of_pin pin w).1 (record { node = r.node; on = on_moves xs ys same r.node w r.on; is = r.is }),
  );
}
  where
    other : HaveSame ys xs
    other = record { forth = same.back; back = same.forth }

    on_moves : (front back : List CarriedNode) → HaveSame front back → (node : CarriedNode) (w : WireIx) → IsOnWire front n.least node w → IsOnWire back n.least node w
    on_moves front back alike node w on = record { low = on.low; least_of = low_moves front back alike node on.low on.least_of; number = on.number }

pub lows_move : (xs ys : List CarriedNode) → HaveSame xs ys → HaveLows ys → HaveLows xs
lows_move xs ys same lows node has wired =
    let r = lows node (same.forth node has) wired in
    (r.0, low_moves ys xs (record { forth = same.back; back = same.forth }) node r.0 r.1)

-- what a new pin's steps give together
pub pin_started : (old mid new : Numbering) (least : List ℕ) (nodes : List (ℕ × WireIx)) (pins more : List (TilePin × WireIx)) (id : ℕ) (pin : TilePin) (wire : WireIx) →
    AddsWire old id mid wire → numbering least nodes pins ≡ mid → ((w : WireIx) → Has old.pins (pin, w) → ⊥) → more ≡ pins ++ (pin, wire) ∷ [] →
    new ≡ with_node (numbering least nodes more) id wire → AddsPinNode old id pin new
pin_started old mid new least nodes pins more id pin wire starts is fresh grown last =
    let number : wire ≡ next_wire old = wire_same wire (next_wire old) starts.0 in
    let base : numbering least nodes pins ≡ with_wire old id = is ∙ starts.1 in
    inr (
      fresh,
      last ∙ (ap (λ (ps : List (TilePin × WireIx)). with_node (numbering least nodes ps) id wire) grown
          ∙ (ap (λ (n : Numbering). with_node (with_pin n pin wire) id wire) base ∙ ap (λ (w : WireIx). with_node (with_pin (with_wire old id) pin w) id w) number)),
    )
