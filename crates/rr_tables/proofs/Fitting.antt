-- The block types of a file fit the tiles of its architecture.
use Rattle.std.proofs.Common.{◌≡◌, ◌≤◌, ◌<◌, ℕ, List, [], ◌∷◌, Option, Some, None, slice_get, refl, sym, ap, ◌∙◌, subst, inl, inr, arith}
use Rattle.vtr_base.specs.Lists.{Has}
use Rattle.list_laws.proofs.Members.{has_at, each_has}
use Rattle.elem_text.specs.declared.elem.Elem.{Elem, out-Elem}
use Rattle.arch_types.specs.declared.arch.ArchParts.{ArchParts}
use Rattle.arch_types.specs.declared.arch.Tile.{Tile}
use Rattle.arch_types.specs.Tiles.{IsTile}
use Rattle.arch_types.specs.WellFormed.{IsWellFormed}
use Rattle.rr_places.specs.declared.pins.ClassedPin.{ClassedPin}
use Rattle.rr_places.specs.Reading.{EachSays}
use Rattle.rr_places.specs.PinTexts.{NamesSub, NamesPin, IsPinText}
use Rattle.rr_places.specs.Pins.{SaysPin, named_of, classed_pins}
use Rattle.rr_places.specs.Types.{NumberedType, AreTypes, SaysType, IsTileName, tile_at, type_elems}
use Rattle.rr_tables.specs.Tiles.{IsPinOfTile, HasTiledPin, FitsTile, FitTiles}
use Rattle.rr_tables.proofs.Searching.{seen_at}

-- each value is said by an item
pub said_by : {A B : Type 0} (Says : A → B → Type 0) (items : List A) (values : List B) → EachSays Says items values → (b : B) → Has values b →
    (a : A) × Says a b
said_by Says [] [] each b has = absurd has
said_by Says [] (v ∷ vs) each b has = absurd each
said_by Says (a ∷ items) [] each b has = absurd each
said_by Says (a ∷ items) (v ∷ vs) each b (inl is) = (a, subst (Says a) (sym is) each.0)
said_by Says (a ∷ items) (v ∷ vs) each b (inr later) = said_by Says items vs each.1 b later

module _ (a : ArchParts) (well : IsWellFormed a) where
  some_sub : (tile : Tile) → 1 ≤ tile.capacity → (text : List ℕ) (sub : ℕ) → NamesSub tile text sub → sub < tile.capacity
  some_sub tile some text sub (inl owner) = omega (arith, owner.first)
  some_sub tile some text sub (inr inside) = inside.instance.read.below

  tile_fine : (place : ℕ) (tile : Tile) → slice_get a.tiles place ≡ Some tile → IsTile a.blocks tile
  tile_fine place tile at = each_has (IsTile a.blocks) a.tiles well.tiles.each tile (has_at a.tiles place tile at)

  pin_of_tile : (place : ℕ) (tile : Tile) → slice_get a.tiles place ≡ Some tile → (text : List ℕ) (pin : ClassedPin) → IsPinText tile text (named_of pin) → IsPinOfTile tile pin
  pin_of_tile place tile at text pin named = record {
    sub = some_sub tile (tile_fine place tile at).capacity.some named.owner pin.pin.sub named.sub;
    port = named.bit.port;
    there = named.bit.there;
    bit = named.bit.bit.read.below;
    side = named.bit.side;
  }

  tiled_pin : (number : Option ℕ) (text : List ℕ) (pin : ClassedPin) → NamesPin (tile_at a.tiles number) text (named_of pin) → HasTiledPin a.tiles number pin
  tiled_pin None text pin named = absurd named
  tiled_pin (Some place) text pin named = by (slice_get a.tiles place) refl named
    where
      by : (r : Option Tile) → slice_get a.tiles place ≡ r → NamesPin r text (named_of pin) → HasTiledPin a.tiles (Some place) pin
      by None e is = absurd is
      by (Some tile) e is = record {
        place = place;
        tile = tile;
        numbered = refl;
        there = e;
        pin_of = pin_of_tile place tile e text pin is;
      }

  tile_named : (name : List ℕ) (number : Option ℕ) (place : ℕ) → IsTileName a.tiles name number → number ≡ Some place → (tile : Tile) × (slice_get a.tiles place ≡ Some tile)
  tile_named name None place is numbered = absurd (cc)
  tile_named name (Some n) place is numbered =
      let same : n ≡ place = cc in
      let seen = seen_at (λ (t : Tile). t.name) a.tiles n name is.1.there in
      (seen.item, ap (slice_get a.tiles) (sym same) ∙ seen.at)

  type_fits : (e : Elem) (type : NumberedType) → SaysType a.tiles e type → FitsTile a.tiles type.1
  type_fits e type says = record {
    there = λ place is. tile_named says.name type.1.tile place says.tile is;
    once = says.pins.once;
    pins = λ ptc pin has.
        let said = said_by (SaysPin (tile_at a.tiles type.1.tile)) (classed_pins e) type.1.pins says.pins.each (ptc, pin) has in
        tiled_pin type.1.tile (out-Elem said.0.1).text pin said.1.named;
  }

  pub types_fit : (root : Elem) (types : List NumberedType) → AreTypes a.tiles root types → FitTiles a.tiles types
  types_fit root types are = record {
    once = are.once;
    each = λ id type has.
        let said = said_by (SaysType a.tiles) (type_elems root) types are.each (id, type) has in
        type_fits said.0 (id, type) said.1;
  }
