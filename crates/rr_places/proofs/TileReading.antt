-- The first tile of a name.
use Rattle.std.proofs.Common.{◌≡◌, ℕ, List, Option, Some, None, codes, map, sym, ap, ◌∙◌, subst}
use Rattle.std.specs.Str.Parse.{digits_value}
use Rattle.vtr_base.specs.Lists.{Has, IsFirstPlace}
use Rattle.list_laws.proofs.Members.{from_map}
use Rattle.elem_text.specs.declared.elem.Elem.{Elem}
use Rattle.elem_reading.specs.AttributeNumbers.{HasNumber}
use Rattle.arch_types.specs.declared.arch.Tile.{Tile}
use Rattle.arch_types.specs.Tiles.{tile_names}
use Rattle.rr_places.specs.declared.error.PlaceError.{PlaceError}
use Rattle.rr_places.specs.Reading.{AreRead, IsFirstRefused, OrMemory}
use Rattle.rr_places.specs.Pins.{PinItem, NumberedPin, SaysPin, IsBadPin, ptc_of, classed_pins}
use Rattle.rr_places.specs.Types.{NumberedType, type_id, IsKnown, IsTileName, tile_at, ArePins, ArePinsRefused}

pub known_of : (ts : List NumberedType) (id : ℕ) → Has (map type_id ts) id → IsKnown ts id
known_of ts id has =
    let f = from_map type_id ts id has in
    (f.item.1, subst (λ n. Has ts (n, f.item.1)) (sym f.is) f.has)

pub one_number : (e : Elem) (name : List ℕ) (most m n : ℕ) → HasNumber e name most m → HasNumber e name most n → m ≡ n
one_number e name most m n p q =
    let both : Some p.value ≡ Some q.value = sym p.held ∙ q.held in
    let value : p.value ≡ q.value = cc in
    p.is ∙ ap (digits_value 10) value ∙ sym q.is

pub no_tile : (tiles : List Tile) (name : List ℕ) → (name ≡ codes "EMPTY" → ⊥) → ((place : ℕ) → IsFirstPlace (tile_names tiles) name place → ⊥) →
    (tile : Option ℕ) → IsTileName tiles name tile → ⊥
no_tile tiles name other none None is = other is
no_tile tiles name other none (Some n) is = none n is.1

-- a refusal of pins, seen from the same pins
pub pins_refused : (tiles : List Tile) (tile : Option ℕ) (t : Option Tile) (e : Elem) (items : List PinItem) (error : PlaceError) → t ≡ tile_at tiles tile → items ≡ classed_pins e →
    OrMemory (IsFirstRefused (SaysPin t) ptc_of (IsBadPin t) items) error → OrMemory (ArePinsRefused tiles tile e) error
pins_refused tiles tile t e items error same is h =
    subst (λ u. OrMemory (IsFirstRefused (SaysPin u) ptc_of (IsBadPin u) (classed_pins e)) error) same
    (subst (λ l. OrMemory (IsFirstRefused (SaysPin t) ptc_of (IsBadPin t) l) error) is h)

pub pins_read : (tiles : List Tile) (tile : Option ℕ) (t : Option Tile) (e : Elem) (items : List PinItem) (pins : List NumberedPin) → t ≡ tile_at tiles tile → items ≡ classed_pins e →
    AreRead (SaysPin t) ptc_of items pins → ArePins tiles tile e pins
pins_read tiles tile t e items pins same is h =
    subst (λ u. AreRead (SaysPin u) ptc_of (classed_pins e) pins) same (subst (λ l. AreRead (SaysPin t) ptc_of l pins) is h)
