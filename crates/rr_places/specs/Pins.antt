-- The pins of a block type (VPR's routing graph files: `block_type` with `pin_class`, and in each
-- `pin` with `ptc` and the pin's text). Pins outside a `pin_class` are unread.
use Rattle.std.specs.Prelude.{◌≡◌, ◌≢◌, ◌+◌, ◌⊎◌, ℕ, List, [], ◌∷◌, ◌++◌, Option, map, codes}
use Rattle.vtr_base.specs.Lists.{Has}
use Rattle.elem_text.specs.declared.elem.Elem.{Elem, out-Elem}
use Rattle.elem_reading.specs.AttributeNumbers.{HasNumber}
use Rattle.elem_reading.specs.Kids.{kids_named}
use Rattle.arch_types.specs.declared.arch.Tile.{Tile}
use Rattle.rr_places.specs.declared.error.PlaceError.{PlaceError}
use Rattle.rr_places.specs.declared.error.PlaceError.TheVariants.{BadItem, UnknownPin}
use Rattle.rr_places.specs.declared.pin_text.SubPin.{SubPin}
use Rattle.rr_places.specs.declared.pin_text.NamedPin.{NamedPin}
use Rattle.rr_places.specs.declared.pins.ClassedPin.{ClassedPin}
use Rattle.rr_places.specs.PinTexts.{NamesPin}

-- a `pin` element with the number of its class
abbrev pub PinItem : Type 0
PinItem = ℕ × Elem

-- a pin under its number
abbrev pub NumberedPin : Type 0
NumberedPin = ℕ × ClassedPin

abbrev pub ptc_of : NumberedPin → ℕ
ptc_of pin = pin.0

-- the pins of these classes, which are numbered from here on
abbrev pub pins_from : ℕ → List Elem → List PinItem
pins_from class [] = []
pins_from class (e ∷ es) =
    map (λ pin. (class, pin)) (kids_named e (codes "pin")) ++ pins_from (class + 1) es

-- the pins of a block type's classes, which are numbered from 0
abbrev pub classed_pins : Elem → List PinItem
classed_pins e = pins_from 0 (kids_named e (codes "pin_class"))

-- the pin of the tile, as the text has it
abbrev pub named_of : ClassedPin → NamedPin
named_of p = record { pin = p.pin; is_output = p.is_output }

-- the element says the pin of this number
pub record SaysPin (tile : Option Tile) (item : PinItem) (pin : NumberedPin) : Type 0 where
  pub ptc : HasNumber item.1 (codes "ptc") 2147483647 pin.0
  pub named : NamesPin tile (out-Elem item.1).text (named_of pin.1)
  pub class : pin.1.class ≡ item.0

-- a pin of this number is among them
abbrev pub IsSeen : List NumberedPin → ℕ → Type 0
IsSeen seen ptc = (pin : ClassedPin) × Has seen (ptc, pin)

abbrev pub NamesNoPin : Option Tile → List ℕ → Type 0
NamesNoPin tile text = (named : NamedPin) → NamesPin tile text named → ⊥

-- its number is seen before, or its text names no pin
abbrev pub IsUnknown : Option Tile → List NumberedPin → Elem → ℕ → Type 0
IsUnknown tile seen e ptc = IsSeen seen ptc ⊎ NamesNoPin tile (out-Elem e).text

-- it has no number
pub record LacksPtc (e : Elem) (error : PlaceError) : Type 0 where
  pub told : error ≡ BadItem (out-Elem e).place
  pub none : (ptc : ℕ) → HasNumber e (codes "ptc") 2147483647 ptc → ⊥

-- it has a number, and that or its text is refused
pub record NamesNone (tile : Option Tile) (seen : List NumberedPin) (e : Elem)
    (error : PlaceError) : Type 0 where
  pub told : error ≡ UnknownPin (out-Elem e).text
  pub ptc : ℕ
  pub numbered : HasNumber e (codes "ptc") 2147483647 ptc
  pub unknown : IsUnknown tile seen e ptc

abbrev pub IsBadPin : Option Tile → List NumberedPin → PinItem → PlaceError → Type 0
IsBadPin tile seen item error = LacksPtc item.1 error ⊎ NamesNone tile seen item.1 error

-- the class of a pin of the tile: that of the first element that names it
abbrev pub HasClass : List NumberedPin → SubPin → ℕ → Type 0
HasClass [] pin class = ⊥
HasClass (p ∷ ps) pin class =
    ((p.1.pin ≡ pin) × (class ≡ p.1.class)) ⊎ ((p.1.pin ≢ pin) × HasClass ps pin class)

-- the entries are the classes of all pins that are named
pub record AreClasses (pins : List NumberedPin) (classes : List (SubPin × ℕ)) : Type 0 where
  pub told : (pin : SubPin) (class : ℕ) → Has classes (pin, class) → HasClass pins pin class
  pub all : (pin : SubPin) → ((class : ℕ) → Has classes (pin, class) → ⊥) →
      (class : ℕ) → HasClass pins pin class → ⊥

-- the classes with that of one pin more, unless it has one
abbrev pub NotesClass : List (SubPin × ℕ) → ClassedPin → List (SubPin × ℕ) → Type 0
NotesClass old pin new =
    (((class : ℕ) × Has old (pin.pin, class)) × (new ≡ old)) ⊎
    (((class : ℕ) → Has old (pin.pin, class) → ⊥) ×
    (new ≡ old ++ (pin.pin, pin.class) ∷ []))
