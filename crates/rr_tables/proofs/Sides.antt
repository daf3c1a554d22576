-- The pins that are found, and their sides.
use Rattle.std.proofs.Common.{◌≡◌, ◌-◌, ℕ, Bool, nat_eq, List, Option, Some, None, slice_get, refl, sym, ap, ◌∙◌, subst, arith}
use Rattle.std.specs.List.{find}
use Rattle.std.specs.Option.{option_map, option_and_then}
use Rattle.vtr_base.specs.Lists.{Has}
use Rattle.arch_types.specs.Blocks.{is_on}
use Rattle.arch_types.specs.declared.arch.Tile.{Tile}
use Rattle.arch_types.specs.declared.block.Port.{Port}
use Rattle.arch_types.specs.declared.block.Side.TheVariants.{Output}
use Rattle.rr_items.specs.declared.carriers.TilePin.{TilePin}
use Rattle.rr_items.specs.declared.grid.GridPlace.{GridPlace}
use Rattle.rr_items.specs.declared.nodes.NodeKind.{NodeKind}
use Rattle.rr_locs.specs.declared.roots.LocAt.{LocAt}
use Rattle.rr_nodes.specs.declared.pins.FoundPin.{FoundPin}
use Rattle.rr_nodes.specs.declared.placed.PlacedNode.{PlacedNode}
use Rattle.rr_places.specs.declared.pin_text.SubPin.{SubPin}
use Rattle.rr_places.specs.declared.pins.ClassedPin.{ClassedPin}
use Rattle.rr_places.specs.Types.{TypeParts, NumberedType, type_id}
use Rattle.rr_tables.specs.Layouts.{IsLayout, IsPinOf}
use Rattle.rr_tables.specs.Looks.{LayoutParts, type_of, pin_numbered, place_at, loc_at, found_pin, pin_from, pin_of, kind_of, HasKind}
use Rattle.rr_tables.specs.Tiles.{HasTiledPin}
use Rattle.rr_tables.proofs.Searching.{nat_same, found_is, one_key}
use Rattle.rr_tables.proofs.Lookups.{under_has, place_has, one_place}
use Rattle.rr_tables.proofs.Locating.{loc_has}

-- found pins, step by step

module _ (l : LayoutParts) (layout : IsLayout l) (x y ptc : ℕ) (found : FoundPin) where
  module _ (place : GridPlace) (has : Has l.places place) (type : TypeParts) (known : Has l.types (place.block_type, type))
      (pin : ClassedPin) (listed : Has type.pins (ptc, pin)) where
    at_loc : (n : ℕ) → loc_at l.locs (place.x - place.width_offset) (place.y - place.height_offset) pin.pin.sub ≡ Some n →
        record { pin = record { loc = n; port = pin.pin.port; bit = pin.pin.bit }; is_output = pin.is_output } ≡ found → IsPinOf l found.pin found.is_output
    at_loc n at is =
        let stands = layout.laid.rooted.rooted place has in
        let root = stands.root in
        let seen = loc_has (place.x - place.width_offset) (place.y - place.height_offset) pin.pin.sub l.locs n at in
        let there : slice_get l.locs found.pin.loc ≡ Some seen.item = ap (λ (f : FoundPin). slice_get l.locs f.pin.loc) (sym is) ∙ seen.at in
        let x_is : root.x ≡ seen.item.x = (let a = ap (λ v. v.0) seen.is in omega (arith, stands.right.x, a)) in
        let y_is : root.y ≡ seen.item.y = (let a = ap (λ v. v.1.0) seen.is in omega (arith, stands.right.y, a)) in
        let same_sub : pin.pin ≡ record { sub = seen.item.sub; port = pin.pin.port; bit = pin.pin.bit } =
        ap (λ v. made v pin.pin.port pin.pin.bit) (sym (ap (λ v. v.1.1) seen.is)) in
        record {
          loc = seen.item;
          at = there;
          place = root;
          has = stands.has;
          x_is = x_is;
          y_is = y_is;
          type = type;
          known = subst (λ n. Has l.types (n, type)) (sym stands.right.block_type) known;
          ptc = ptc;
          classed = pin;
          listed = listed;
          is = same_sub ∙ (ap (λ v. made seen.item.sub v pin.pin.bit) (ap (λ (f : FoundPin). f.pin.port) is) ∙ ap (λ v. made seen.item.sub found.pin.port v) (ap (λ (f : FoundPin). f.pin.bit) is));
          side = ap (λ (f : FoundPin). f.is_output) is;
        }
      where
        made : ℕ → ℕ → ℕ → SubPin
        made sub port bit = record { sub = sub; port = port; bit = bit }

    by_loc : (r : Option ℕ) → loc_at l.locs (place.x - place.width_offset) (place.y - place.height_offset) pin.pin.sub ≡ r →
        option_map (λ loc. record { pin = record { loc = loc; port = pin.pin.port; bit = pin.pin.bit }; is_output = pin.is_output }) r ≡ Some found → IsPinOf l found.pin found.is_output
    by_loc None e gives = absurd (cc)
    by_loc (Some n) e gives = at_loc n e (cc)

  by_pin : (place : GridPlace) → Has l.places place → (type : TypeParts) → Has l.types (place.block_type, type) → (r : Option ClassedPin) → pin_numbered type.pins ptc ≡ r →
      option_and_then (found_pin l.locs (place.x - place.width_offset) (place.y - place.height_offset)) r ≡ Some found → IsPinOf l found.pin found.is_output
  by_pin place has type known None e gives = absurd (cc)
  by_pin place has type known (Some pin) e gives =
      by_loc place has type known pin (under_has type.pins ptc pin e) (loc_at l.locs (place.x - place.width_offset) (place.y - place.height_offset) pin.pin.sub) refl gives

  by_type : (place : GridPlace) → Has l.places place → (r : Option TypeParts) → type_of l.types place.block_type ≡ r →
      option_and_then (λ (type : TypeParts). option_and_then (found_pin l.locs (place.x - place.width_offset) (place.y - place.height_offset)) (pin_numbered type.pins ptc)) r ≡ Some found →
      IsPinOf l found.pin found.is_output
  by_type place has None e gives = absurd (cc)
  by_type place has (Some type) e gives = by_pin place has type (under_has l.types place.block_type type e) (pin_numbered type.pins ptc) refl gives

  by_place : (r : Option GridPlace) → place_at l.places x y ≡ r → option_and_then (pin_from l ptc) r ≡ Some found → IsPinOf l found.pin found.is_output
  by_place None e gives = absurd (cc)
  by_place (Some place) e gives = by_type place (place_has l.places x y place e).0 (type_of l.types place.block_type) refl gives

  pub found_pin_of : pin_of l x y ptc ≡ Some found → IsPinOf l found.pin found.is_output
  found_pin_of is = by_place (place_at l.places x y) refl is

-- one side

same_value : {A : Type 0} (a b : A) → Some a ≡ Some b → a ≡ b
same_value a b e = cc

side_of_tile : (tiles : List Tile) (number : Option ℕ) (p q : ClassedPin) → HasTiledPin tiles number p → HasTiledPin tiles number q → p.pin ≡ q.pin → p.is_output ≡ q.is_output
side_of_tile tiles number p q of_p of_q same =
    let place : of_p.place ≡ of_q.place = same_value of_p.place of_q.place (sym of_p.numbered ∙ of_q.numbered) in
    let tile : of_p.tile ≡ of_q.tile = same_value of_p.tile of_q.tile (sym of_p.there ∙ (ap (slice_get tiles) place ∙ of_q.there)) in
    let port : of_p.pin_of.port ≡ of_q.pin_of.port =
    same_value of_p.pin_of.port of_q.pin_of.port (sym of_p.pin_of.there ∙
    (ap (λ (t : Tile). slice_get t.ports p.pin.port) tile ∙ (ap (λ (s : SubPin). slice_get of_q.tile.ports s.port) same ∙ of_q.pin_of.there))) in
    of_p.pin_of.side ∙ (ap (λ (r : Port). is_on Output r.side) port ∙ sym of_q.pin_of.side)

pub one_side : (l : LayoutParts) → IsLayout l → (pin : TilePin) (s t : Bool) → IsPinOf l pin s → IsPinOf l pin t → s ≡ t
one_side l layout pin s t a b =
    let loc : a.loc ≡ b.loc = same_value a.loc b.loc (sym a.at ∙ b.at) in
    let place : a.place ≡ b.place =
    one_place l.places layout.laid.rooted.once a.place b.place a.has b.has (a.x_is ∙ (ap (λ (v : LocAt). v.x) loc ∙ sym b.x_is)) (a.y_is ∙ (ap (λ (v : LocAt). v.y) loc ∙ sym b.y_is)) in
    let pair : (a.place.block_type, a.type) ≡ (b.place.block_type, b.type) =
    one_key type_id l.types layout.laid.fit.once (a.place.block_type, a.type) (b.place.block_type, b.type) a.known b.known (ap (λ (p : GridPlace). p.block_type) place) in
    let type : a.type ≡ b.type = ap (λ (v : NumberedType). v.1) pair in
    let fits = layout.laid.fit.each b.place.block_type b.type b.known in
    let listed : Has b.type.pins (a.ptc, a.classed) = subst (λ (v : TypeParts). Has v.pins (a.ptc, a.classed)) type a.listed in
    let same : a.classed.pin ≡ b.classed.pin = a.is ∙ (ap (λ (v : LocAt). made v.sub) loc ∙ sym b.is) in
    sym a.side ∙ (side_of_tile layout.tiles b.type.tile a.classed b.classed (fits.pins a.ptc a.classed listed) (fits.pins b.ptc b.classed b.listed) same ∙ b.side)
  where
    made : ℕ → SubPin
    made sub = record { sub = sub; port = pin.port; bit = pin.bit }

-- kinds

pub found_kind : (nodes : List PlacedNode) (id : ℕ) (kind : NodeKind) → kind_of nodes id ≡ Some kind → HasKind nodes id kind
found_kind nodes id kind is = by (find (λ (n : PlacedNode). nat_eq n.carried.id id) nodes) refl is
  where
    by : (r : Option PlacedNode) → find (λ (n : PlacedNode). nat_eq n.carried.id id) nodes ≡ r → option_map (λ (n : PlacedNode). n.at.kind) r ≡ Some kind → HasKind nodes id kind
    by None e gives = absurd (cc)
    by (Some node) e gives =
        let found = found_is (λ (n : PlacedNode). nat_eq n.carried.id id) nodes node e in
        record { node = node; has = found.0; named = nat_same node.carried.id id found.1; is = cc }
