-- Elements of a model as its lines say them.
use Rattle.std.specs.Prelude.{ℕ, List, [], ◌∷◌, Option, Some, None, map, filter}
use Rattle.blif_covers.specs.Covers.{RowSaid}
use Rattle.blif_items.specs.declared.elem.PinAt.{PinAt}

-- an element by the name of its atom, with its nets by number: a `.names` with its rows, a `.latch`, and a `.subckt` with its
-- connected pins and its parameters
pub data ElemSaid : Type 0 where
  is_lut : (name : List ℕ) (inputs : List ℕ) (output : ℕ) (rows : List RowSaid) → ElemSaid
  is_latch : (name : List ℕ) (loaded made control : ℕ) → ElemSaid
  is_cell : (name : List ℕ) (model : ℕ) (pins : List PinAt) (params : List (List ℕ × List ℕ)) → ElemSaid

-- the nets at the connected outputs of a box
abbrev pub outs_of : List PinAt → List ℕ
outs_of pins = map (λ p. p.net) (filter (λ p. p.is_output) pins)

-- a pin that may be there
abbrev pub list_of : Option PinAt → List PinAt
list_of None = []
list_of (Some pin) = pin ∷ []
