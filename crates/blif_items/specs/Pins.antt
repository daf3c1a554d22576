-- The connected pins of a box, with their nets by number, and its name (BLIF, "Subcircuits").
use Rattle.std.specs.Prelude.{◌≡◌, ◌↔◌, ℕ, List, [], ◌∷◌, ◌++◌, IsTrue, Some, codes, slice_get}
use Rattle.std.specs.Fmt.{decimal}
use Rattle.vtr_base.specs.Lists.{Has}
use Rattle.arch_types.specs.declared.arch.CellModel.{CellModel}
use Rattle.blif_boxes.specs.Pins.{ActualSaid, says_unconnected, says_net, PinSaid}
use Rattle.blif_books.specs.Books.{BookSaid, Mentions}
use Rattle.blif_items.specs.declared.elem.PinAt.{PinAt}

-- a pin at a net
pub record IsPinAt (model : CellModel) (p : PinSaid) (net : ℕ) (pin : PinAt) : Type 0 where
  pub port : pin.port ≡ p.port
  pub bit : pin.bit ≡ p.bit
  pub net_is : pin.net ≡ net
  pub side : IsTrue pin.is_output ↔ Has model.outs p.port

-- a pin without a net is passed over, and the net of another one is mentioned
abbrev pub PlacesPin : CellModel → PinSaid → ActualSaid → BookSaid → BookSaid → List PinAt → Type 0
PlacesPin model p says_unconnected old new pins = (new ≡ old) × (pins ≡ [])
PlacesPin model p (says_net name) old new pins =
    (net : ℕ) × (pin : PinAt) × Mentions old name new net × IsPinAt model p net pin × (pins ≡ pin ∷ [])

-- the connected pins of a box, in the order of its line
abbrev pub PlacesPins : CellModel → List PinSaid → BookSaid → BookSaid → List PinAt → Type 0
PlacesPins model [] old new pins = (new ≡ old) × (pins ≡ [])
PlacesPins model (p ∷ ps) old new pins =
    (mid : BookSaid) × (here : List PinAt) × (others : List PinAt)
    × PlacesPin model p p.actual old mid here × (pins ≡ here ++ others) × PlacesPins model ps mid new others

-- the name of the net at the first connected output, or `box:K` where K boxes stand before
abbrev pub IsCellName : List (List ℕ) → ℕ → List ℕ → List ℕ → Type 0
IsCellName nets boxes [] name = name ≡ codes "box:" ++ decimal boxes
IsCellName nets boxes (net ∷ outs) name = slice_get nets net ≡ Some name
