-- Elements say nodes in one way, and are refused in one way.
use Rattle.std.proofs.Common.{◌≡◌, ◌≤◌, ◌<◌, ◌⊎◌, ℕ, zero, suc, Bool, true, false, List, [], ◌∷◌, ◌++◌, Some, length, take, drop, slice_get, codes, refl, sym, ap, ◌∙◌, subst, inl, inr, arith}
use Rattle.std.specs.Str.Parse.{digits_value}
use Rattle.std.proofs.lemmas.Bool.{cases_lt}
use Rattle.std.proofs.lemmas.List.{take-map, length-take, take-append-drop}
use Rattle.std.proofs.lemmas.Option.{slice_get_within}
use Rattle.elem_reading.specs.AttributeNumbers.{HasNumber}
use Rattle.elem_text.specs.declared.elem.Elem.{Elem}
use Rattle.vtr_base.specs.Lists.{Has}
use Rattle.list_laws.specs.Orders.{Once}
use Rattle.list_laws.proofs.Members.{has_at, has_left, has_map}
use Rattle.list_laws.proofs.Places.{element, get_front}
use Rattle.rr_items.specs.declared.carriers.Carrier.{Carrier}
use Rattle.rr_items.specs.declared.carriers.Carrier.TheVariants.{Pin}
use Rattle.rr_items.specs.declared.nodes.Node.{Node}
use Rattle.rr_items.specs.declared.nodes.NodeFault.TheVariants.{Item}
use Rattle.rr_items.specs.declared.nodes.NodeKind.{NodeKind}
use Rattle.rr_items.specs.declared.nodes.NodeKind.TheVariants.{Source, Sink, Opin, Ipin, Chanx, Chany}
use Rattle.rr_items.specs.Ground.{IsOnGround}
use Rattle.rr_items.specs.NodeItems.{SaysNode, IsNodeFault}
use Rattle.rr_nodes.specs.declared.error.NodeError.{NodeError}
use Rattle.rr_nodes.specs.declared.error.NodeError.TheVariants.{BadNode, Layer, NodeWithoutPin, OutOfMemory}
use Rattle.rr_nodes.specs.declared.placed.PlacedNode.{PlacedNode}
use Rattle.rr_nodes.specs.Carriers.{Pins, HasPinCarrier, CarriesKind, HasCarrier}
use Rattle.rr_nodes.specs.Placing.{ids_of, HasNode}
use Rattle.rr_nodes.specs.Saying.{IsPlaced, SaysPlaced, SaysNodes}
use Rattle.rr_nodes.specs.Refusing.{TellsId, SaysOldNode, Fails, IsRefused}

-- lists by places

same_by_places : {X : Type 0} (xs ys : List X) → length xs ≡ length ys →
    ((k : ℕ) (x y : X) → slice_get xs k ≡ Some x → slice_get ys k ≡ Some y → x ≡ y) → xs ≡ ys
same_by_places [] [] long same = refl
same_by_places [] (y ∷ ys) long same = absurd (omega (arith, long))
same_by_places (x ∷ xs) [] long same = absurd (omega (arith, long))
same_by_places (x ∷ xs) (y ∷ ys) long same =
    let head = same 0 x y refl refl in
    let tail = same_by_places xs ys (omega (arith, long)) (λ k v w at_v at_w. same (suc k) v w at_v at_w) in cc

from_take : {X : Type 0} (n k : ℕ) (xs : List X) (x : X) → slice_get (take n xs) k ≡ Some x → slice_get xs k ≡ Some x
from_take n k xs x at = ap (λ l. slice_get l k) (sym (take-append-drop n xs)) ∙ get_front (take n xs) (drop n xs) k x at

in_take : {X : Type 0} (n k : ℕ) (xs : List X) (x : X) → k < n → slice_get xs k ≡ Some x → slice_get (take n xs) k ≡ Some x
in_take zero k xs x low at = absurd (omega arith)
in_take (suc n) k [] x low at = at
in_take (suc n) zero (y ∷ xs) x low at = at
in_take (suc n) (suc k) (y ∷ xs) x low at = in_take n k xs x (omega arith) at

take_twice : {X : Type 0} (m n : ℕ) (xs : List X) → m ≤ n → take m (take n xs) ≡ take m xs
take_twice zero n xs low = refl
take_twice (suc m) zero xs low = absurd (omega arith)
take_twice (suc m) (suc n) [] low = refl
take_twice (suc m) (suc n) (x ∷ xs) low = ap (λ l. x ∷ l) (take_twice m n xs (omega arith))

once_left : {X : Type 0} (xs ys : List X) → Once (xs ++ ys) → Once xs
once_left [] ys once = tt
once_left (x ∷ xs) ys once = (λ has. once.0 (has_left xs ys x has), once_left xs ys once.1)

once_take : (n : ℕ) (ns : List PlacedNode) → Once (ids_of ns) → Once (ids_of (take n ns))
once_take n ns once =
    subst Once (take-map (λ node. node.carried.id) n ns)
    (once_left (take n (ids_of ns)) (drop n (ids_of ns)) (subst Once (sym (take-append-drop n (ids_of ns))) once))

fresh_at : (ns : List PlacedNode) (k : ℕ) (n : PlacedNode) → Once (ids_of ns) → slice_get ns k ≡ Some n → HasNode (take k ns) n.carried.id → ⊥
fresh_at [] k n once at has = absurd (cc)
fresh_at (m ∷ ns) zero n once at has = has
fresh_at (m ∷ ns) (suc k) n once at (inl is) =
    once.0 (subst (Has (ids_of ns)) is (has_map (λ node. node.carried.id) ns n (has_at ns k n at)))
fresh_at (m ∷ ns) (suc k) n once at (inr later) = fresh_at ns k n once.1 at later

-- one carrier

module _ (pin_of : Pins) where
  one_pin_carrier : (node : Node) (side : Bool) (c d : Carrier) → HasPinCarrier pin_of node side c → HasPinCarrier pin_of node side d → c ≡ d
  one_pin_carrier node side c d p q =
      let numbers : Some p.number ≡ Some q.number = sym p.numbered ∙ q.numbered in
      let number : p.number ≡ q.number = cc in
      let pins : Some p.found ≡ Some q.found = sym p.there ∙ ap (λ n. pin_of node.span.x_low node.span.y_low n) number ∙ q.there in
      let found : p.found ≡ q.found = cc in
      p.is ∙ ap (λ f. Pin f.pin) found ∙ sym q.is

  one_of_kind : (node : Node) (k : NodeKind) (c d : Carrier) → CarriesKind pin_of node k c → CarriesKind pin_of node k d → c ≡ d
  one_of_kind node Source c d p q = p ∙ sym q
  one_of_kind node Sink c d p q = p ∙ sym q
  one_of_kind node Opin c d p q = one_pin_carrier node true c d p q
  one_of_kind node Ipin c d p q = one_pin_carrier node false c d p q
  one_of_kind node Chanx c d p q = p ∙ sym q
  one_of_kind node Chany c d p q = p ∙ sym q

  one_placed : (node : Node) (a b : PlacedNode) → IsPlaced pin_of node a → IsPlaced pin_of node b → a ≡ b
  one_placed node a b p q =
      let id = p.id ∙ sym q.id in
      let carrier = one_of_kind node node.kind a.carried.carrier b.carried.carrier p.carrier q.carrier in
      let kind = p.kind ∙ sym q.kind in
      let x = p.x ∙ sym q.x in
      let y = p.y ∙ sym q.y in
      ap (λ i. made i a.carried.carrier a.at.kind a.at.x a.at.y) id ∙ ap (λ c. made b.carried.id c a.at.kind a.at.x a.at.y) carrier ∙
      ap (λ k. made b.carried.id b.carried.carrier k a.at.x a.at.y) kind ∙ ap (λ v. made b.carried.id b.carried.carrier b.at.kind v a.at.y) x ∙
      ap (λ v. made b.carried.id b.carried.carrier b.at.kind b.at.x v) y
    where
      made : ℕ → Carrier → NodeKind → ℕ → ℕ → PlacedNode
      made id carrier kind x y = record { carried = record { id = id; carrier = carrier }; at = record { kind = kind; x = x; y = y } }

-- one id

one_number : (e : Elem) (name : List ℕ) (most m n : ℕ) → HasNumber e name most m → HasNumber e name most n → m ≡ n
one_number e name most m n p q =
    let both : Some p.value ≡ Some q.value = sym p.held ∙ q.held in
    let value : p.value ≡ q.value = cc in
    p.is ∙ ap (digits_value 10) value ∙ sym q.is

one_told : (e : Elem) (index a b : ℕ) → TellsId e index a → TellsId e index b → a ≡ b
one_told e index a b (inl p) (inl q) = one_number e (codes "id") 2147483647 a b p q
one_told e index a b (inl p) (inr q) = absurd (q.0 a p)
one_told e index a b (inr p) (inl q) = absurd (p.0 b q)
one_told e index a b (inr p) (inr q) = p.1 ∙ sym q.1

pub told_of_node : (e : Elem) (index id : ℕ) (node : Node) → TellsId e index id → SaysNode e node → id ≡ node.id
told_of_node e index id node told says = one_told e index id node.id told (inl says.says.id)

module _ (pin_of : Pins) (one_node : (e : Elem) (p q : Node) → SaysNode e p → SaysNode e q → p ≡ q) where
  one_said : (e : Elem) (a b : PlacedNode) → SaysPlaced pin_of e a → SaysPlaced pin_of e b → a ≡ b
  one_said e a b p q =
      let node = one_node e p.node q.node p.says.says q.says.says in
      one_placed pin_of q.node a b (subst (λ n. IsPlaced pin_of n a) node p.is) q.is

  pub one_list : (es : List Elem) (ns ms : List PlacedNode) → SaysNodes pin_of es ns → SaysNodes pin_of es ms → ns ≡ ms
  one_list es ns ms p q = same_by_places ns ms (p.long ∙ sym q.long) same
    where
      same : (k : ℕ) (x y : PlacedNode) → slice_get ns k ≡ Some x → slice_get ms k ≡ Some y → x ≡ y
      same k x y at_x at_y =
          let e = element es k (omega (arith, slice_get_within ns k x at_x, p.long)) in
          one_said e.0 x y (p.each k e.0 x e.1 at_x) (q.each k e.0 y e.1 at_y)

  front : (n : ℕ) (es : List Elem) (ns : List PlacedNode) → SaysNodes pin_of es ns → SaysNodes pin_of (take n es) (take n ns)
  front n es ns p = record {
    long = omega (arith, length-take n es, length-take n ns, p.long);
    each = λ k e node at_e at_n. p.each k e node (from_take n k es e at_e) (from_take n k ns node at_n);
    once = once_take n ns p.once;
  }

  same_loc : (e : Elem) (m n : Node) (p : SaysNode e m) (q : SaysNode e n) → p.loc ≡ q.loc
  same_loc e m n p q = (let both : Some p.loc ≡ Some q.loc = sym p.first ∙ q.first in cc)

  not_bad : (before : List PlacedNode) (e : Elem) (node : Node) → SaysNode e node → (HasNode before node.id → ⊥) →
      IsNodeFault e Item ⊎ SaysOldNode before e → ⊥
  not_bad before e node says fresh (inl fault) = fault node says
  not_bad before e node says fresh (inr old) =
      fresh (subst (λ n. HasNode before n.id) (one_node e old.node node old.says says) old.old)

  not_refused : (before : List PlacedNode) (e : Elem) (n : PlacedNode) → SaysPlaced pin_of e n → (HasNode before n.carried.id → ⊥) →
      (error : NodeError) → Fails pin_of before e error → ⊥
  not_refused before e n p fresh (BadNode id) fails =
      not_bad before e p.node p.says.says (λ has. fresh (subst (HasNode before) (sym p.is.id) has)) fails.0
  not_refused before e n p fresh Layer fails =
      fails.off (subst IsOnGround (same_loc e p.node fails.node p.says.says fails.says) p.says.ground)
  not_refused before e n p fresh (NodeWithoutPin id) fails =
      fails.none n.carried.carrier
      (subst (λ m. HasCarrier pin_of m n.carried.carrier) (one_node e p.node fails.node p.says.says fails.says.says) p.is.carrier)
  not_refused before e n p fresh OutOfMemory fails = fails

  one_failure : (before : List PlacedNode) (e : Elem) (a b : NodeError) → Fails pin_of before e a → Fails pin_of before e b → a ≡ b
  one_failure before e (BadNode i) (BadNode j) p q = ap BadNode (one_told e (length before) i j p.1 q.1)
  one_failure before e (BadNode i) Layer p q = absurd (not_bad before e q.node q.says q.fresh p.0)
  one_failure before e (BadNode i) (NodeWithoutPin j) p q = absurd (not_bad before e q.node q.says.says q.fresh p.0)
  one_failure before e (BadNode i) OutOfMemory p q = absurd q
  one_failure before e Layer (BadNode j) p q = absurd (not_bad before e p.node p.says p.fresh q.0)
  one_failure before e Layer Layer p q = refl
  one_failure before e Layer (NodeWithoutPin j) p q =
      absurd (p.off (subst IsOnGround (same_loc e q.node p.node q.says.says p.says) q.says.ground))
  one_failure before e Layer OutOfMemory p q = absurd q
  one_failure before e (NodeWithoutPin i) (BadNode j) p q = absurd (not_bad before e p.node p.says.says p.fresh q.0)
  one_failure before e (NodeWithoutPin i) Layer p q =
      absurd (q.off (subst IsOnGround (same_loc e p.node q.node p.says.says q.says) p.says.ground))
  one_failure before e (NodeWithoutPin i) (NodeWithoutPin j) p q =
      ap NodeWithoutPin (p.told ∙ ap (λ n. n.id) (one_node e p.node q.node p.says.says q.says.says) ∙ sym q.told)
  one_failure before e (NodeWithoutPin i) OutOfMemory p q = absurd q
  one_failure before e OutOfMemory b p q = absurd p

  pub never_both : (es : List Elem) (ns : List PlacedNode) (error : NodeError) → SaysNodes pin_of es ns → IsRefused pin_of es error → ⊥
  never_both es ns error p r =
      let n = element ns r.place (omega (arith, slice_get_within es r.place r.e r.at, p.long)) in
      let said = p.each r.place r.e n.0 r.at n.1 in
      let before = one_list (take r.place es) (take r.place ns) r.before (front r.place es ns p) r.earlier in
      not_refused (take r.place ns) r.e n.0 said (fresh_at ns r.place n.0 p.once n.1) error
      (subst (λ l. Fails pin_of l r.e error) (sym before) r.fails)

  cut : (es : List Elem) (error : NodeError) (r : IsRefused pin_of es error) (n : ℕ) → r.place < n → IsRefused pin_of (take n es) error
  cut es error r n low = record {
    place = r.place;
    e = r.e;
    at = in_take n r.place es r.e low r.at;
    before = r.before;
    earlier = subst (λ l. SaysNodes pin_of l r.before) (sym (take_twice r.place n es (omega (arith, low)))) r.earlier;
    fails = r.fails;
  }

  pub one_refusal : (es : List Elem) (a b : NodeError) → IsRefused pin_of es a → IsRefused pin_of es b → a ≡ b
  one_refusal es a b p q = by (cases_lt p.place q.place) (cases_lt q.place p.place)
    where
      by : (p.place < q.place) ⊎ (q.place ≤ p.place) → (q.place < p.place) ⊎ (p.place ≤ q.place) → a ≡ b
      by (inl less) other = absurd (never_both (take q.place es) q.before a q.earlier (cut es a p q.place less))
      by (inr more) (inl less) = absurd (never_both (take p.place es) p.before b p.earlier (cut es b q p.place less))
      by (inr more) (inr fewer) =
          let place : p.place ≡ q.place = omega (arith, more, fewer) in
          let both : Some p.e ≡ Some q.e = sym p.at ∙ ap (slice_get es) place ∙ q.at in
          let e : p.e ≡ q.e = cc in
          let before = one_list (take q.place es) p.before q.before (subst (λ k. SaysNodes pin_of (take k es) p.before) place p.earlier) q.earlier in
          let fails : Fails pin_of q.before p.e a = subst (λ l. Fails pin_of l p.e a) before p.fails in
          one_failure q.before q.e a b (subst (λ x. Fails pin_of q.before x a) e fails) q.fails
