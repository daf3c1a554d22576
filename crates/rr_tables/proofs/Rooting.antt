-- The roots of blocks that have locations.
use Rattle.std.proofs.Common.{◌≡◌, ◌<◌, ◌+◌, ℕ, Bool, true, false, cond, nat_eq, List, [], ◌∷◌, ◌++◌, Option, Some, None, length, take, get_or, add-one, map, slice_get, refl, sym, ap, ◌∙◌, subst, inl, inr}
use Rattle.std.specs.List.{filter_map, cons_option}
use Rattle.std.specs.Option.{option_map, option_and_then, option_to_list}
use Rattle.std.proofs.Math.Seq.{take-suc}
use Rattle.std.proofs.lemmas.List.Elements.{filter_map-append}
use Rattle.vtr_base.specs.Lists.{Has}
use Rattle.list_laws.specs.Orders.{Once}
use Rattle.list_laws.proofs.Members.{from_map, has_map}
use Rattle.arch_types.specs.declared.arch.Tile.{Tile}
use Rattle.rr_items.specs.declared.grid.GridPlace.{GridPlace}
use Rattle.rr_grid.specs.Roots.{column_and_row}
use Rattle.rr_locs.specs.declared.roots.TileRoot.{TileRoot}
use Rattle.rr_locs.specs.Places.{place_of}
use Rattle.rr_places.specs.Types.{TypeParts, NumberedType}
use Rattle.rr_tables.specs.Looks.{type_of}
use Rattle.rr_tables.specs.Roots.{is_root, root_with, tiled, root_of, roots_of}
use Rattle.rr_tables.proofs.Searching.{both, nat_itself}

-- a list without what a function passes over
pub record FromPick {X Y : Type 0} (h : X → Option Y) (xs : List X) (y : Y) : Type 0 where
  pub item : X
  pub has : Has xs item
  pub gives : h item ≡ Some y

pub from_pick : {X Y : Type 0} (h : X → Option Y) (xs : List X) (y : Y) → Has (filter_map h xs) y → FromPick h xs y
from_pick h [] y has = absurd has
from_pick {X} {Y} h (x ∷ xs) y has = by (λ there. later (from_pick h xs y there)) (h x) refl has
  where
    later : FromPick h xs y → FromPick h (x ∷ xs) y
    later rest = record { item = rest.item; has = inr rest.has; gives = rest.gives }

    by : (Has (filter_map h xs) y → FromPick h (x ∷ xs) y) → (r : Option Y) → h x ≡ r → Has (cons_option r (filter_map h xs)) y → FromPick h (x ∷ xs) y
    by behind None e there = behind there
    by behind (Some z) e (inl is) = record { item = x; has = inl refl; gives = e ∙ ap Some (sym is) }
    by behind (Some z) e (inr there) = behind there

pub has_pick : {X Y : Type 0} (h : X → Option Y) (xs : List X) (x : X) (y : Y) → Has xs x → h x ≡ Some y → Has (filter_map h xs) y
has_pick h [] x y has gives = absurd has
has_pick {X} {Y} h (z ∷ zs) x y has gives = by (λ later. has_pick h zs x y later gives) (h z) refl has
  where
    by : (Has zs x → Has (filter_map h zs) y) → (r : Option Y) → h z ≡ r → Has (z ∷ zs) x → Has (cons_option r (filter_map h zs)) y
    by behind None e (inl is) = (let bad : None ≡ Some y = sym e ∙ ap h (sym is) ∙ gives in absurd (cc))
    by behind None e (inr later) = behind later
    by behind (Some w) e (inl is) = (let same : Some w ≡ Some y = sym e ∙ ap h (sym is) ∙ gives in inl (cc))
    by behind (Some w) e (inr later) = inr (behind later)

-- the root that a place and a tile give
abbrev pub made : GridPlace → ℕ → Tile → TileRoot
made place number tile = record { x = place.x; y = place.y; tile = number; capacity = tile.capacity }

pub record RootFrom (tiles : List Tile) (types : List NumberedType) (place : GridPlace) (root : TileRoot) : Type 0 where
  pub type : TypeParts
  pub known : type_of types place.block_type ≡ Some type
  pub number : ℕ
  pub numbered : type.tile ≡ Some number
  pub tile : Tile
  pub there : slice_get tiles number ≡ Some tile
  pub is : root ≡ made place number tile

module _ (tiles : List Tile) (types : List NumberedType) where
  pub root_to : (place : GridPlace) (type : TypeParts) (number : ℕ) (tile : Tile) → place.width_offset ≡ 0 → place.height_offset ≡ 0 →
      type_of types place.block_type ≡ Some type → type.tile ≡ Some number → slice_get tiles number ≡ Some tile →
      root_of tiles types place ≡ Some (made place number tile)
  root_to place type number tile no_width no_height known numbered there =
      ap (λ b. cond b (tiled tiles types place) None) (both (nat_eq place.width_offset 0) (nat_eq place.height_offset 0) (nat_itself _ 0 no_width) (nat_itself _ 0 no_height)) ∙
      ap (option_and_then (λ (t : TypeParts). option_and_then (root_with tiles place) t.tile)) known ∙
      ap (option_and_then (root_with tiles place)) numbered ∙
      ap (option_map (made place number)) there

  pub root_from : (place : GridPlace) (root : TileRoot) → root_of tiles types place ≡ Some root → RootFrom tiles types place root
  root_from place root is = by_root (is_root place) is
    where
      by_tile : (type : TypeParts) → type_of types place.block_type ≡ Some type → (number : ℕ) → type.tile ≡ Some number → (r : Option Tile) → slice_get tiles number ≡ r →
          option_map (made place number) r ≡ Some root → RootFrom tiles types place root
      by_tile type known number numbered None e gives = absurd (cc)
      by_tile type known number numbered (Some tile) e gives = record {
        type = type;
        known = known;
        number = number;
        numbered = numbered;
        tile = tile;
        there = e;
        is = cc;
      }

      by_number : (type : TypeParts) → type_of types place.block_type ≡ Some type → (r : Option ℕ) → type.tile ≡ r → option_and_then (root_with tiles place) r ≡ Some root →
          RootFrom tiles types place root
      by_number type known None e gives = absurd (cc)
      by_number type known (Some number) e gives = by_tile type known number e (slice_get tiles number) refl gives

      by_type : (r : Option TypeParts) → type_of types place.block_type ≡ r → option_and_then (λ (t : TypeParts). option_and_then (root_with tiles place) t.tile) r ≡ Some root →
          RootFrom tiles types place root
      by_type None e gives = absurd (cc)
      by_type (Some type) e gives = by_number type e type.tile refl gives

      by_root : (b : Bool) → cond b (tiled tiles types place) None ≡ Some root → RootFrom tiles types place root
      by_root false gives = absurd (cc)
      by_root true gives = by_type (type_of types place.block_type) refl gives

  same_spot : (place : GridPlace) (root : TileRoot) → root_of tiles types place ≡ Some root → place_of root ≡ column_and_row place
  same_spot place root is = ap place_of (root_from place root is).is

  pub apart : (places : List GridPlace) → Once (map column_and_row places) → Once (map place_of (roots_of tiles types places))
  apart [] once = tt
  apart (p ∷ ps) once = by (apart ps once.1) (root_of tiles types p) refl
    where
      lost : (root : TileRoot) → root_of tiles types p ≡ Some root → Has (map place_of (roots_of tiles types ps)) (place_of root) → ⊥
      lost root is has =
          let later = from_map place_of (roots_of tiles types ps) (place_of root) has in
          let from = from_pick (root_of tiles types) ps later.item later.has in
          let spot : column_and_row from.item ≡ column_and_row p = sym (same_spot from.item later.item from.gives) ∙ sym later.is ∙ same_spot p root is in
          once.0 (subst (Has (map column_and_row ps)) spot (has_map column_and_row ps from.item from.has))

      by : Once (map place_of (roots_of tiles types ps)) → (r : Option TileRoot) → root_of tiles types p ≡ r → Once (map place_of (cons_option r (roots_of tiles types ps)))
      by rest None e = rest
      by rest (Some root) e = (lost root e, rest)

-- places without a root
module _ (tiles : List Tile) (types : List NumberedType) (place : GridPlace) where
  none_either : (b : Bool) (r : Option TileRoot) → r ≡ None → cond b r None ≡ None
  none_either true r e = e
  none_either false r e = refl

  pub no_type : type_of types place.block_type ≡ None → root_of tiles types place ≡ None
  no_type known =
      none_either (is_root place) (tiled tiles types place) (ap (option_and_then (λ (t : TypeParts). option_and_then (root_with tiles place) t.tile)) known)

  module _ (type : TypeParts) (known : type_of types place.block_type ≡ Some type) where
    pub no_tile : type.tile ≡ None → root_of tiles types place ≡ None
    no_tile numbered =
        none_either (is_root place) (tiled tiles types place)
        (ap (option_and_then (λ (t : TypeParts). option_and_then (root_with tiles place) t.tile)) known ∙ ap (option_and_then (root_with tiles place)) numbered)

    pub no_such : (number : ℕ) → type.tile ≡ Some number → slice_get tiles number ≡ None → root_of tiles types place ≡ None
    no_such number numbered there =
        none_either (is_root place) (tiled tiles types place)
        (ap (option_and_then (λ (t : TypeParts). option_and_then (root_with tiles place) t.tile)) known ∙ ap (option_and_then (root_with tiles place)) numbered ∙
        ap (option_map (made place number)) there)

-- one place more
module _ {X Y : Type 0} (h : X → Option Y) (xs : List X) (i : ℕ) (d : X) (low : i < length xs) where
  single : (r : Option Y) → cons_option r [] ≡ option_to_list r
  single None = refl
  single (Some y) = refl

  one_more : filter_map h (take (i + 1) xs) ≡ filter_map h (take i xs) ++ option_to_list (h (get_or xs i d))
  one_more =
      ap (λ n. filter_map h (take n xs)) (add-one i) ∙ ap (filter_map h) (take-suc xs i d low) ∙
      filter_map-append h (take i xs) (get_or xs i d ∷ []) ∙ ap (λ l. filter_map h (take i xs) ++ l) (single (h (get_or xs i d)))

  pub with_place : (r : Option Y) (before after : List Y) → r ≡ h (get_or xs i d) → before ≡ filter_map h (take i xs) → after ≡ before ++ option_to_list r →
      after ≡ filter_map h (take (i + 1) xs)
  with_place r before after is was longer =
      longer ∙ ap (λ l. l ++ option_to_list r) was ∙ ap (λ v. filter_map h (take i xs) ++ option_to_list v) is ∙ sym one_more
