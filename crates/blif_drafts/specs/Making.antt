-- What one line does to nets and names.
use Rattle.std.specs.Prelude.{ℕ, List, [], ◌∷◌}
use Rattle.arch_types.specs.declared.arch.CellModel.{CellModel}
use Rattle.blif_boxes.specs.Pins.{PinSaid}
use Rattle.blif_books.specs.Books.{BookSaid, MentionsAll, Makes}
use Rattle.blif_items.specs.declared.elem.PinAt.{PinAt}
use Rattle.blif_items.specs.Items.{outs_of}
use Rattle.blif_items.specs.Pins.{IsCellName, PlacesPins}

-- nets are mentioned, then some are driven, and atoms get names
pub record MentionsAndMakes (old : BookSaid) (nets : List (List ℕ)) (numbers driven : List ℕ) (atoms : List (List ℕ)) (new : BookSaid) : Type 0 where
  pub mentioned : BookSaid
  pub mentions : MentionsAll old nets mentioned numbers
  pub makes : Makes mentioned driven atoms new

-- the pins of a box are placed, its outputs driven, and it gets its name
pub record PlacesBox (model : CellModel) (pins : List PinSaid) (boxes : ℕ) (old : BookSaid) (placed : List PinAt) (atom : List ℕ) (new : BookSaid) : Type 0 where
  pub mentioned : BookSaid
  pub places : PlacesPins model pins old mentioned placed
  pub named : IsCellName mentioned.nets boxes (outs_of placed) atom
  pub makes : Makes mentioned (outs_of placed) (atom ∷ []) new
