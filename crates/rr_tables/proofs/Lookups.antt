-- What look-ups by keys find.
use Rattle.std.proofs.Common.{◌≡◌, ℕ, true, nat_eq, List, Option, Some, None, Bor, is_some, MatchOption, map, refl, sym, ap, ◌∙◌, subst}
use Rattle.std.specs.List.{find}
use Rattle.std.specs.Option.{option_map}
use Rattle.list_laws.specs.Orders.{Once}
use Rattle.vtr_base.specs.Lists.{Has}
use Rattle.rr_items.specs.declared.grid.GridPlace.{GridPlace}
use Rattle.list_laws.proofs.Members.{has_map}
use Rattle.list_laws.proofs.Searches.{any_none}
use Rattle.rr_items.specs.declared.switches.Switch.{Switch}
use Rattle.rr_nodes.specs.declared.placed.NodeAt.{NodeAt}
use Rattle.rr_nodes.specs.declared.placed.PlacedNode.{PlacedNode}
use Rattle.rr_nodes.specs.Placing.{ids_of, HasNode, StandsAt}
use Rattle.rr_places.specs.Switches.{id_of, HasId}
use Rattle.rr_places.specs.Types.{TypeParts, NumberedType}
use Rattle.rr_grid.specs.Roots.{column_and_row, StandsNone}
use Rattle.rr_tables.specs.Looks.{place_at, stands_at, knows_type, kind_of, direction_of, ways_of}
use Rattle.rr_tables.proofs.Searching.{nat_same, nat_itself, both, of_both, none_found, found_by, found_is, any_has, one_key}

-- values under numbers

abbrev pub under : {V : Type 0} → List (ℕ × V) → ℕ → Option V
under xs k = option_map (λ x. x.1) (find (λ x. nat_eq x.0 k) xs)

pub under_found : {V : Type 0} (xs : List (ℕ × V)) (k : ℕ) (v : V) → Once (map (λ x. x.0) xs) → Has xs (k, v) → under xs k ≡ Some v
under_found {V} xs k v once has =
    ap (option_map (λ (x : ℕ × V). x.1)) (found_by (λ x. nat_eq x.0 k) xs (k, v) has (nat_itself k k refl)
    (λ y there passes. one_key (λ x. x.0) xs once y (k, v) there has (nat_same y.0 k passes)))

pub under_none : {V : Type 0} (xs : List (ℕ × V)) (k : ℕ) → ((v : V) → Has xs (k, v) → ⊥) → under xs k ≡ None
under_none {V} xs k none =
    ap (option_map (λ (x : ℕ × V). x.1)) (none_found (λ x. nat_eq x.0 k) xs
    (λ y there passes. none y.1 (subst (λ n. Has xs (n, y.1)) (nat_same y.0 k passes) there)))

pub under_has : {V : Type 0} (xs : List (ℕ × V)) (k : ℕ) (v : V) → under xs k ≡ Some v → Has xs (k, v)
under_has {V} xs k v is = by (find (λ x. nat_eq x.0 k) xs) refl is
  where
    by : (r : Option (ℕ × V)) → find (λ x. nat_eq x.0 k) xs ≡ r → option_map (λ (x : ℕ × V). x.1) r ≡ Some v → Has xs (k, v)
    by None e gives = absurd (cc)
    by (Some y) e gives =
        let there = found_is (λ x. nat_eq x.0 k) xs y e in
        let value : y.1 ≡ v = cc in
        subst (λ n. Has xs (n, v)) (nat_same y.0 k there.1) (subst (λ w. Has xs (y.0, w)) value there.0)

-- places of the grid

pub stands : (place : GridPlace) (x y : ℕ) → place.x ≡ x → place.y ≡ y → stands_at x y place ≡ true
stands place x y is_x is_y = both (nat_eq place.x x) (nat_eq place.y y) (nat_itself place.x x is_x) (nat_itself place.y y is_y)

pub stood : (place : GridPlace) (x y : ℕ) → stands_at x y place ≡ true → (place.x ≡ x) × (place.y ≡ y)
stood place x y passes =
    let two = of_both (nat_eq place.x x) (nat_eq place.y y) passes in
    (nat_same place.x x two.0, nat_same place.y y two.1)

pub one_place : (places : List GridPlace) → Once (map column_and_row places) → (p q : GridPlace) → Has places p → Has places q → p.x ≡ q.x → p.y ≡ q.y → p ≡ q
one_place places once p q has_p has_q x y =
    one_key column_and_row places once p q has_p has_q (ap (λ v. (v, p.y)) x ∙ ap (λ v. (q.x, v)) y)

pub place_found : (places : List GridPlace) (x y : ℕ) (place : GridPlace) → Once (map column_and_row places) → Has places place → place.x ≡ x → place.y ≡ y →
    place_at places x y ≡ Some place
place_found places x y place once has is_x is_y =
    found_by (stands_at x y) places place has (stands place x y is_x is_y)
    (λ other there passes. (let at = stood other x y passes in one_place places once other place there has (at.0 ∙ sym is_x) (at.1 ∙ sym is_y)))

pub place_none : (places : List GridPlace) (x y : ℕ) → StandsNone places x y → place_at places x y ≡ None
place_none places x y none =
    none_found (stands_at x y) places (λ place there passes. (let at = stood place x y passes in none place there at.0 at.1))

pub place_has : (places : List GridPlace) (x y : ℕ) (place : GridPlace) → place_at places x y ≡ Some place →
    Has places place × (place.x ≡ x) × (place.y ≡ y)
place_has places x y place is =
    let found = found_is (stands_at x y) places place is in
    let at = stood place x y found.1 in
    (found.0, at.0, at.1)

-- nodes and switches

pub node_none : (nodes : List PlacedNode) (id : ℕ) → (HasNode nodes id → ⊥) → kind_of nodes id ≡ None
node_none nodes id none =
    ap (option_map (λ (n : PlacedNode). n.at.kind)) (none_found (λ (n : PlacedNode). nat_eq n.carried.id id) nodes
    (λ node has passes. none (subst (Has (ids_of nodes)) (nat_same node.carried.id id passes) (has_map (λ (n : PlacedNode). n.carried.id) nodes node has))))

pub node_found : (nodes : List PlacedNode) (id : ℕ) (at : NodeAt) → Once (ids_of nodes) → StandsAt nodes id at → kind_of nodes id ≡ Some at.kind
node_found nodes id at once stands =
    ap (option_map (λ (n : PlacedNode). n.at.kind)) (found_by (λ (n : PlacedNode). nat_eq n.carried.id id) nodes stands.node stands.has (nat_itself stands.node.carried.id id stands.named)
    (λ other has passes. one_key (λ (n : PlacedNode). n.carried.id) nodes once other stands.node has stands.has (nat_same other.carried.id id passes ∙ sym stands.named))) ∙
    ap (λ (a : NodeAt). Some a.kind) stands.placed

pub switch_none : (switches : List Switch) (id : ℕ) → ((s : Switch) → HasId switches id s → ⊥) → ways_of switches id ≡ None
switch_none switches id none =
    ap (option_map (λ (s : Switch). direction_of s.two_way)) (none_found (λ (s : Switch). nat_eq s.id id) switches
    (λ s has passes. none s (record { listed = has; named = nat_same s.id id passes })))

pub switch_found : (switches : List Switch) (id : ℕ) (s : Switch) → Once (map id_of switches) → HasId switches id s → ways_of switches id ≡ Some (direction_of s.two_way)
switch_found switches id s once has =
    ap (option_map (λ (s : Switch). direction_of s.two_way)) (found_by (λ (s : Switch). nat_eq s.id id) switches s has.listed (nat_itself s.id id has.named)
    (λ other there passes. one_key id_of switches once other s there has.listed (nat_same other.id id passes ∙ sym has.named)))

-- block types

pub knows : (types : List NumberedType) (id : ℕ) (r : Option (Bor TypeParts)) → MatchOption r ((type : TypeParts) → Has types (id, type) → ⊥) (λ type. Has types (id, type.now)) →
    is_some r ≡ knows_type types id
knows types id None none =
    sym (any_none (λ (t : NumberedType). nat_eq t.0 id) types (λ t has passes. none t.1 (subst (λ n. Has types (n, t.1)) (nat_same t.0 id passes) has)))
knows types id (Some type) has = sym (any_has (λ (t : NumberedType). nat_eq t.0 id) types (id, type.now) has (nat_itself id id refl))
