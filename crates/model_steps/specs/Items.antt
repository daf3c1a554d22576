-- What the items of a model mention, drive and are called.
use Rattle.std.specs.Prelude.{◌≡◌, ℕ, List, [], ◌∷◌, ◌++◌, Some, map, slice_get}
use Rattle.blif_items.specs.declared.elem.PinAt.{PinAt}
use Rattle.blif_items.specs.Items.{ElemSaid, is_lut, is_latch, is_cell, outs_of}
use Rattle.blif_parts.specs.Models.{ItemSaid, is_input, is_output, is_elem}
use Rattle.blif_parts.specs.Adds.{out_name}

-- the nets of an element, in the order of its line
abbrev pub nets_in : ElemSaid → List ℕ
nets_in (is_lut name inputs output rows) = inputs ++ output ∷ []
nets_in (is_latch name loaded made control) = loaded ∷ made ∷ control ∷ []
nets_in (is_cell name model pins params) = map (λ (p : PinAt). p.net) pins

-- those that it drives
abbrev pub outs_in : ElemSaid → List ℕ
outs_in (is_lut name inputs output rows) = output ∷ []
outs_in (is_latch name loaded made control) = made ∷ []
outs_in (is_cell name model pins params) = outs_of pins

abbrev pub name_in : ElemSaid → List ℕ
name_in (is_lut name inputs output rows) = name
name_in (is_latch name loaded made control) = name
name_in (is_cell name model pins params) = name

abbrev pub nets_by : ItemSaid → List ℕ
nets_by (is_input net) = net ∷ []
nets_by (is_output net) = net ∷ []
nets_by (is_elem e) = nets_in e

abbrev pub outs_by : ItemSaid → List ℕ
outs_by (is_input net) = net ∷ []
outs_by (is_output net) = []
outs_by (is_elem e) = outs_in e

-- the name of an item's atom
abbrev pub IsCalled : List (List ℕ) → ItemSaid → List ℕ → Type 0
IsCalled nets (is_input net) name = slice_get nets net ≡ Some name
IsCalled nets (is_output net) name = (of : List ℕ) × (slice_get nets net ≡ Some of) × (name ≡ out_name of)
IsCalled nets (is_elem e) name = name ≡ name_in e

-- item by item
abbrev pub AreCalled : List (List ℕ) → List ItemSaid → List (List ℕ) → Type 0
AreCalled nets [] names = names ≡ []
AreCalled nets (item ∷ items) [] = ⊥
AreCalled nets (item ∷ items) (name ∷ names) = IsCalled nets item name × AreCalled nets items names
