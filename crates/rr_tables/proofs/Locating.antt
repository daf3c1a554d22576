-- The locations of pins.
use Rattle.std.proofs.Common.{◌≡◌, ◌<◌, ◌+◌, ◌-◌, ◌&&◌, ℕ, Bool, true, nat_eq, List, Option, Some, None, MatchOption, map, slice_get, refl, sym, ap, ◌∙◌, subst, inl, inr, arith}
use Rattle.std.specs.Option.{option_map, option_and_then}
use Rattle.vtr_base.specs.Lists.{Has}
use Rattle.list_laws.specs.Orders.{Once, Ordered}
use Rattle.rr_items.specs.declared.grid.GridPlace.{GridPlace}
use Rattle.rr_grid.specs.declared.grid.GridRoot.{GridRoot}
use Rattle.rr_grid.specs.Roots.{HasRootAt, StandsNone}
use Rattle.rr_locs.specs.declared.roots.LocAt.{LocAt}
use Rattle.rr_locs.specs.declared.roots.TileRoot.{TileRoot}
use Rattle.rr_locs.specs.Listing.{loc_of}
use Rattle.rr_locs.specs.Places.{Before, AreLocs, IsFirstAt, StandsNone as StandsNowhere}
use Rattle.rr_places.specs.declared.pin_text.SubPin.{SubPin}
use Rattle.rr_places.specs.Pins.{HasClass}
use Rattle.rr_nodes.specs.declared.pins.FoundPin.{FoundPin}
use Rattle.rr_places.specs.declared.pins.ClassedPin.{ClassedPin}
use Rattle.rr_places.specs.Types.{TypeParts, NumberedType}
use Rattle.rr_tables.specs.Layouts.{IsLayout, HasSub, HasClassAt}
use Rattle.rr_tables.specs.Looks.{LayoutParts, type_of, pin_numbered, place_at, is_loc, loc_at, found_pin, pin_from, pin_of}
use Rattle.rr_tables.specs.Roots.{root_of, roots_of}
use Rattle.rr_tables.proofs.Searching.{nat_same, nat_itself, both, of_both, Seen, once_seen, at_seen, position_is, position_has, one_key}
use Rattle.rr_tables.proofs.Lookups.{under_found, under_none, place_found, place_none, one_place}
use Rattle.rr_tables.proofs.Rooting.{made, root_to, has_pick}

abbrev pub spot : LocAt → ℕ × (ℕ × ℕ)
spot loc = (loc.x, (loc.y, loc.sub))

no_two : (a b : LocAt) → Before a b → spot a ≡ spot b → ⊥
no_two a b (inl x) same = omega (arith, x, ap (λ v. v.0) same)
no_two a b (inr (is_x, inl y)) same = omega (arith, y, ap (λ v. v.1.0) same)
no_two a b (inr (is_x, inr (is_y, sub))) same = omega (arith, sub, ap (λ v. v.1.1) same)

pub locs_once : (locs : List LocAt) → Ordered Before locs → Once (map spot locs)
locs_once locs ordered = once_seen Before spot no_two locs ordered

module _ (x y sub : ℕ) where
  only : (loc : LocAt) → is_loc x y sub loc ≡ true → spot loc ≡ (x, (y, sub))
  only loc passes =
      let first = of_both (nat_eq loc.x x) (nat_eq loc.y y && nat_eq loc.sub sub) passes in
      let second = of_both (nat_eq loc.y y) (nat_eq loc.sub sub) first.1 in
      ap (λ v. (v, (loc.y, loc.sub))) (nat_same loc.x x first.0) ∙ ap (λ v. (x, (v, loc.sub))) (nat_same loc.y y second.0) ∙ ap (λ v. (x, (y, v))) (nat_same loc.sub sub second.1)

  all : (loc : LocAt) → spot loc ≡ (x, (y, sub)) → is_loc x y sub loc ≡ true
  all loc is =
      both (nat_eq loc.x x) (nat_eq loc.y y && nat_eq loc.sub sub) (nat_itself loc.x x (ap (λ v. v.0) is))
      (both (nat_eq loc.y y) (nat_eq loc.sub sub) (nat_itself loc.y y (ap (λ v. v.1.0) is)) (nat_itself loc.sub sub (ap (λ v. v.1.1) is)))

  pub loc_is : (locs : List LocAt) → Ordered Before locs → (n : ℕ) (loc : LocAt) → slice_get locs n ≡ Some loc → spot loc ≡ (x, (y, sub)) → loc_at locs x y sub ≡ Some n
  loc_is locs ordered n loc at is =
      position_is (is_loc x y sub) spot (x, (y, sub)) only all locs (locs_once locs ordered) n (at_seen spot locs n loc at ∙ ap Some is)

  pub loc_has : (locs : List LocAt) (n : ℕ) → loc_at locs x y sub ≡ Some n → Seen spot locs n (x, (y, sub))
  loc_has locs n is = position_has (is_loc x y sub) spot (x, (y, sub)) only all locs n is

-- the sub of a pin is one of its block's root
pub has_sub : (l : LayoutParts) → IsLayout l → (x y ptc : ℕ) (root : GridRoot) → HasRootAt l.places x y root → (type : TypeParts) → Has l.types (root.block_type, type) →
    (pin : ClassedPin) → Has type.pins (ptc, pin) → HasSub l.locs root.x root.y pin.pin.sub
has_sub l layout x y ptc root at type known pin listed =
    let laid = layout.laid in
    let stands = laid.rooted.rooted at.place at.has in
    let low = stands.root in
    let same_type : low.block_type ≡ root.block_type = stands.right.block_type ∙ sym at.block_type in
    let is_known : Has l.types (low.block_type, type) = subst (λ n. Has l.types (n, type)) (sym same_type) known in
    let fits = (laid.fit.each root.block_type type known).pins ptc pin listed in
    let found = root_to layout.tiles l.types low type fits.place fits.tile stands.right.no_width stands.right.no_height
    (under_found l.types low.block_type type laid.fit.once is_known) fits.numbered fits.there in
    record {
      roots = roots_of layout.tiles l.types l.places;
      are = laid.locs;
      root = made low fits.place fits.tile;
      has = has_pick (root_of layout.tiles l.types) l.places low (made low fits.place fits.tile) stands.has found;
      x_is = omega (arith, stands.right.x, at.root_x, at.x_is);
      y_is = omega (arith, stands.right.y, at.root_y, at.y_is);
      within = fits.pin_of.sub;
    }

-- what is looked up step by step

pub no_place : (l : LayoutParts) (x y ptc : ℕ) → StandsNone l.places x y → pin_of l x y ptc ≡ None
no_place l x y ptc none = ap (option_and_then (pin_from l ptc)) (place_none l.places x y none)

module _ (l : LayoutParts) (layout : IsLayout l) (x y ptc : ℕ) (root : GridRoot) (at : HasRootAt l.places x y root) where
  place_is : place_at l.places x y ≡ Some at.place
  place_is = place_found l.places x y at.place layout.laid.rooted.once at.has at.x_is at.y_is

  root_x : at.place.x - at.place.width_offset ≡ root.x
  root_x = omega (arith, at.root_x, at.x_is)

  root_y : at.place.y - at.place.height_offset ≡ root.y
  root_y = omega (arith, at.root_y, at.y_is)

  abbrev from_type : Option TypeParts → Option FoundPin
  from_type r = option_and_then
      (λ (type : TypeParts). option_and_then
      (found_pin l.locs (at.place.x - at.place.width_offset) (at.place.y - at.place.height_offset))
      (pin_numbered type.pins ptc))
      r

  pub no_type : ((type : TypeParts) → Has l.types (root.block_type, type) → ⊥) → pin_of l x y ptc ≡ None
  no_type none =
      ap (option_and_then (pin_from l ptc)) place_is ∙
      ap from_type (under_none l.types at.place.block_type (λ type has. none type (subst (λ n. Has l.types (n, type)) (sym at.block_type) has)))

  module _ (type : TypeParts) (known : Has l.types (root.block_type, type)) where
    type_is : type_of l.types at.place.block_type ≡ Some type
    type_is = under_found l.types at.place.block_type type layout.laid.fit.once (subst (λ n. Has l.types (n, type)) at.block_type known)

    abbrev from_pin : Option ClassedPin → Option FoundPin
    from_pin r = option_and_then (found_pin l.locs (at.place.x - at.place.width_offset) (at.place.y - at.place.height_offset)) r

    pub no_pin : ((pin : ClassedPin) → Has type.pins (ptc, pin) → ⊥) → pin_of l x y ptc ≡ None
    no_pin none =
        ap (option_and_then (pin_from l ptc)) place_is ∙ ap from_type type_is ∙ ap from_pin (under_none type.pins ptc none)

    pub pin_is : (pin : ClassedPin) → Has type.pins (ptc, pin) → pin_of l x y ptc ≡ found_pin l.locs root.x root.y pin
    pin_is pin listed =
        ap (option_and_then (pin_from l ptc)) place_is ∙ ap from_type type_is ∙
        ap from_pin (under_found type.pins ptc pin (layout.laid.fit.each root.block_type type known).once listed) ∙
        (ap (λ v. found_pin l.locs v (at.place.y - at.place.height_offset) pin) root_x ∙ ap (λ v. found_pin l.locs root.x v pin) root_y)

    module _ (pin : ClassedPin) (listed : Has type.pins (ptc, pin)) where
      abbrev on_loc : Option ℕ → Option FoundPin
      on_loc r = option_map (λ loc. record { pin = record { loc = loc; port = pin.pin.port; bit = pin.pin.bit }; is_output = pin.is_output }) r

      pub no_loc : None ≡ loc_at l.locs root.x root.y pin.pin.sub → None ≡ pin_of l x y ptc
      no_loc none = ap on_loc none ∙ sym (pin_is pin listed)

      pub on_some_loc : (loc : ℕ) → Some loc ≡ loc_at l.locs root.x root.y pin.pin.sub → (found : FoundPin) → found.pin.loc ≡ loc → found.pin.port ≡ pin.pin.port →
          found.pin.bit ≡ pin.pin.bit → found.is_output ≡ pin.is_output → Some found ≡ pin_of l x y ptc
      on_some_loc loc some found loc_is port bit side =
          ap (λ v. Some (made v found.pin.port found.pin.bit found.is_output)) loc_is ∙ ap (λ v. Some (made loc v found.pin.bit found.is_output)) port ∙
          ap (λ v. Some (made loc pin.pin.port v found.is_output)) bit ∙ ap (λ v. Some (made loc pin.pin.port pin.pin.bit v)) side ∙
          ap on_loc some ∙ sym (pin_is pin listed)
        where
          made : ℕ → ℕ → ℕ → Bool → FoundPin
          made loc port bit side = record { pin = record { loc = loc; port = port; bit = bit }; is_output = side }

-- the first location and the subs

abbrev pub SubsFollow : Type 0
SubsFollow = (roots : List TileRoot) (locs : List LocAt) (root : TileRoot) (number sub : ℕ) → AreLocs roots locs → Has roots root → IsFirstAt locs root.x root.y number →
    sub < root.capacity → slice_get locs (number + sub) ≡ Some (loc_of root sub)

module _ (locs : List LocAt) (x y sub : ℕ) (has : HasSub locs x y sub) where
  pub no_first : StandsNowhere locs x y → ⊥
  no_first none =
      none (loc_of has.root sub)
      (has.are.all (loc_of has.root sub) (record { root = has.root; has = has.has; x = refl; y = refl; tile = refl; sub = has.within }))
      has.x_is has.y_is

  module _ (follow : SubsFollow) (first : ℕ) (is : IsFirstAt locs x y first) where
    pub sub_there : slice_get locs (first + sub) ≡ Some (loc_of has.root sub)
    sub_there =
        follow has.roots locs has.root first sub has.are has.has
        (subst (λ v. IsFirstAt locs v has.root.y first) (sym has.x_is) (subst (λ v. IsFirstAt locs x v first) (sym has.y_is) is)) has.within

    pub sub_is : loc_at locs x y sub ≡ Some (first + sub)
    sub_is =
        loc_is x y sub locs has.are.ascend (first + sub) (loc_of has.root sub) sub_there
        (ap (λ v. (v, (has.root.y, sub))) has.x_is ∙ ap (λ v. (x, (v, sub))) has.y_is)

-- classes

module _ (l : LayoutParts) (layout : IsLayout l) (loc : LocAt) (port bit : ℕ) (root : GridRoot) (at : HasRootAt l.places loc.x loc.y root) where
  same_place : (class : ℕ) (h : HasClassAt l loc port bit class) → Has l.types (root.block_type, h.type)
  same_place class h =
      let same = one_place l.places layout.laid.rooted.once h.place at.place h.has at.has (h.x_is ∙ sym at.x_is) (h.y_is ∙ sym at.y_is) in
      subst (λ n. Has l.types (n, h.type)) (ap (λ (p : GridPlace). p.block_type) same ∙ sym at.block_type) h.known

  pub no_class : ((type : TypeParts) → Has l.types (root.block_type, type) → ⊥) → (class : ℕ) → HasClassAt l loc port bit class → ⊥
  no_class none class h = none h.type (same_place class h)

  abbrev pub pin : SubPin
  pin = record { sub = loc.sub; port = port; bit = bit }

  pub class_there : (type : TypeParts) → Has l.types (root.block_type, type) → (r : Option ℕ) → MatchOption r ((class : ℕ) → HasClass type.pins pin class → ⊥) (HasClass type.pins pin) →
      MatchOption r ((class : ℕ) → HasClassAt l loc port bit class → ⊥) (HasClassAt l loc port bit)
  class_there type known None none = λ class h.
      (let same = one_key (λ (t : NumberedType). t.0) l.types layout.laid.fit.once (root.block_type, h.type) (root.block_type, type) (same_place class h) known refl in
      none class (subst (λ (t : TypeParts). HasClass t.pins pin class) (ap (λ (t : NumberedType). t.1) same) h.is))
  class_there type known (Some class) is = record {
    place = at.place;
    has = at.has;
    x_is = at.x_is;
    y_is = at.y_is;
    type = type;
    known = subst (λ n. Has l.types (n, type)) at.block_type known;
    is = is;
  }
