-- One element more.
use Rattle.std.proofs.Common.{◌≡◌, ◌<◌, ◌≤◌, ◌+◌, ◌⊎◌, ℕ, zero, suc, List, [], ◌∷◌, ◌++◌, Option, Some, None, Result, Ok, Err, IfOk, IfErr, MatchOption, MatchResult, map, length, take, get_or, slice_get, Bor, refl, sym, ap, ◌∙◌, subst, inl, inr, arith}
use Rattle.std.proofs.lemmas.List.{map-append, length-map, length_push, take_all, take_more}
use Rattle.std.proofs.lemmas.Option.{slice_get_within, slice_get-map, slice_get_read, get_or_from_slice_get}
use Rattle.elem_text.specs.declared.elem.Elem.{Elem}
use Rattle.list_laws.proofs.Onces.{once_pushed}
use Rattle.list_laws.proofs.Places.{get_either}
use Rattle.std.specs.Option.{ok_or, option_map}
use Rattle.rr_items.specs.declared.carriers.Carrier.{Carrier}
use Rattle.rr_items.specs.declared.nodes.Node.{Node}
use Rattle.rr_items.specs.declared.nodes.NodeFault.{NodeFault}
use Rattle.rr_items.specs.declared.nodes.NodeFault.TheVariants.{Layer}
use Rattle.rr_items.specs.NodeItems.{IsNodeOnGround, IsNodeFault}
use Rattle.rr_nodes.specs.declared.error.NodeError.{NodeError}
use Rattle.rr_nodes.specs.declared.error.NodeError.TheVariants.{NodeWithoutPin}
use Rattle.rr_nodes.specs.declared.placed.PlacedNode.{PlacedNode}
use Rattle.rr_nodes.specs.Carriers.{Pins, HasCarrier}
use Rattle.rr_nodes.specs.Placing.{ids_of, HasNode}
use Rattle.rr_nodes.specs.Saying.{IsPlaced, SaysPlaced, IsNewNode, AddsNode, SaysNodes}
use Rattle.rr_nodes.specs.Refusing.{TellsId, SaysOffGround, Fails, IsRefused}
use Rattle.rr_nodes.proofs.OneReading.{told_of_node}

pub none_said : (pin_of : Pins) → SaysNodes pin_of [] []
none_said pin_of = record { long = refl; each = λ k e node at_e at_n. absurd (cc); once = tt }

one_behind : {X : Type 0} (x y : X) (j : ℕ) → slice_get (x ∷ []) j ≡ Some y → x ≡ y
one_behind x y zero at = cc
one_behind x y (suc j) at = absurd (cc)

module _ (pin_of : Pins) where
  pushed : (es : List Elem) (ns : List PlacedNode) (e : Elem) (n : PlacedNode) → SaysNodes pin_of es ns → IsNewNode pin_of ns e n →
      SaysNodes pin_of (es ++ e ∷ []) (ns ++ n ∷ [])
  pushed es ns e n p new = record {
    long = omega (arith, length_push es e, length_push ns n, p.long);
    each = λ k x m at_x at_m. each k x m (get_either es (e ∷ []) k x at_x) (get_either ns (n ∷ []) k m at_m);
    once = rw (map-append (λ node. node.carried.id) ns (n ∷ [])) (once_pushed (ids_of ns) n.carried.id p.once new.fresh);
  }
    where
      each : (k : ℕ) (x : Elem) (m : PlacedNode) →
          (slice_get es k ≡ Some x) ⊎ ((j : ℕ) × (k ≡ length es + j) × (slice_get (e ∷ []) j ≡ Some x)) →
          (slice_get ns k ≡ Some m) ⊎ ((j : ℕ) × (k ≡ length ns + j) × (slice_get (n ∷ []) j ≡ Some m)) → SaysPlaced pin_of x m
      each k x m (inl at_x) (inl at_m) = p.each k x m at_x at_m
      each k x m (inl at_x) (inr m_last) = absurd (omega (arith, slice_get_within es k x at_x, m_last.1, p.long))
      each k x m (inr x_last) (inl at_m) = absurd (omega (arith, slice_get_within ns k m at_m, x_last.1, p.long))
      each k x m (inr x_last) (inr m_last) =
          let is_x = one_behind e x x_last.0 x_last.2 in
          let is_m = one_behind n m m_last.0 m_last.2 in
          subst (λ y. SaysPlaced pin_of y m) is_x (subst (λ q. SaysPlaced pin_of e q) is_m new.says)

  pub said_more : (all : List Elem) (k : ℕ) (ns after : List PlacedNode) (e : Elem) → slice_get all k ≡ Some e → SaysNodes pin_of (take k all) ns →
      AddsNode pin_of ns e after → SaysNodes pin_of (take (k + 1) all) after
  said_more all k ns after e at p adds =
      let more : take (k + 1) all ≡ take k all ++ e ∷ [] =
      take_more all k e (slice_get_within all k e at) ∙ ap (λ x. take k all ++ x ∷ []) (get_or_from_slice_get all k e e at) in
      subst (λ l. SaysNodes pin_of l after) (sym more)
      (subst (SaysNodes pin_of (take k all ++ e ∷ [])) (sym adds.is) (pushed (take k all) ns e adds.node p adds.new))

pub off_ground : (before : List PlacedNode) (e : Elem) (index id : ℕ) (r : Result Node NodeFault) (fault : NodeFault) → r ≡ Err fault → fault ≡ Layer →
    TellsId e index id → (HasNode before id → ⊥) → IfErr r (IsNodeFault e) → SaysOffGround before e
off_ground before e index id r fault is layer told fresh faults =
    let off : IsNodeFault e Layer = subst (IsNodeFault e) layer (subst (λ q. IfErr q (IsNodeFault e)) is faults) in
    record {
      node = off.0;
      says = off.1;
      fresh = λ has. fresh (subst (HasNode before) (sym (told_of_node e index id off.0 told off.1)) has);
      off = off.2;
    }

pub settled : (pin_of : Pins) (before : List PlacedNode) (e : Elem) (index id : ℕ) (r : Result Node NodeFault) (node : Node) → r ≡ Ok node →
    TellsId e index id → (HasNode before id → ⊥) → IfOk r (IsNodeOnGround e) → (placed : Option PlacedNode) →
    MatchOption placed ((carrier : Carrier) → HasCarrier pin_of node carrier → ⊥) (IsPlaced pin_of node) →
    MatchResult (ok_or placed (NodeWithoutPin id)) (IsNewNode pin_of before e) (Fails pin_of before e)
settled pin_of before e index id r node is told fresh reads placed match = by placed match
  where
    says : IsNodeOnGround e node
    says = subst (λ q. IfOk q (IsNodeOnGround e)) is reads

    same : id ≡ node.id
    same = told_of_node e index id node told says.says

    by : (o : Option PlacedNode) → MatchOption o ((carrier : Carrier) → HasCarrier pin_of node carrier → ⊥) (IsPlaced pin_of node) →
        MatchResult (ok_or o (NodeWithoutPin id)) (IsNewNode pin_of before e) (Fails pin_of before e)
    by None none = record {
      node = node;
      says = says;
      fresh = λ has. fresh (subst (HasNode before) (sym same) has);
      none = none;
      told = same;
    }
    by (Some p) is_placed = record {
      says = record { node = node; says = says; is = is_placed };
      fresh = λ has. fresh (subst (HasNode before) (is_placed.id ∙ sym same) has);
    }

-- a list of lent elements

abbrev pub read_elems : List (Bor Elem) → List Elem
read_elems items = map (λ e. e.now) items

pub elem_at : (items : List (Bor Elem)) (k : ℕ) (item : Bor Elem) → k < length items → item ≡ get_or items k item → slice_get (read_elems items) k ≡ Some item.now
elem_at items k item low is =
    slice_get-map (λ e. e.now) items k ∙ ap (option_map (λ e. e.now)) (slice_get_read items (length items) k item refl low is)

pub fails_there : (pin_of : Pins) (all : List Elem) (items : List (Bor Elem)) (k : ℕ) (item : Bor Elem) (before : List PlacedNode) (error : NodeError) →
    read_elems items ≡ all → k < length items → item ≡ get_or items k item → SaysNodes pin_of (take k (read_elems items)) before →
    Fails pin_of before item.now error → IsRefused pin_of all error
fails_there pin_of all items k item before error is low at earlier fails =
    subst (λ l. IsRefused pin_of l error) is
    (record { place = k; e = item.now; at = elem_at items k item low at; before = before; earlier = earlier; fails = fails })

pub all_said : (pin_of : Pins) (all : List Elem) (items : List (Bor Elem)) (k : ℕ) (nodes : List PlacedNode) → read_elems items ≡ all → length items ≤ k →
    SaysNodes pin_of (take k (read_elems items)) nodes → SaysNodes pin_of all nodes
all_said pin_of all items k nodes is past said =
    subst (λ l. SaysNodes pin_of l nodes) (take_all k (read_elems items) (omega (arith, past, length-map items (λ e. e.now))) ∙ is) said
