-- What the lines of an atom say (BLIF, "Models", "Logic gates", "Generic latches", "Subcircuits",
-- and the extension `.param`).
use Rattle.std.specs.Prelude.{◌≡◌, ◌+◌, ℕ, Bool, List, [], ◌∷◌, ◌++◌, Some, codes, length, map, slice_get, if◌then◌else◌}
use Rattle.arch_types.specs.declared.arch.CellModel.{CellModel}
use Rattle.arch_types.specs.declared.block.AtomKind.{AtomKind}
use Rattle.arch_types.specs.declared.block.AtomKind.TheVariants.{InPad, OutPad, Lut, Latch, Cell}
use Rattle.net_types.specs.declared.atom.Atom.{Atom}
use Rattle.net_types.specs.declared.atom.Conn.{Conn}
use Rattle.net_types.specs.Atoms.{IsPin, AreLatchPins}
use Rattle.blif_elems.specs.Statements.{Said, says_inputs, says_outputs, says_names, says_latch, says_box, says_param, says_row}
use Rattle.blif_order.specs.Orders.{IsPinOrder}
use Rattle.blif_text.specs.Words.{name_at}
use Rattle.pin_texts.specs.Words.{pin_word}
use Rattle.table_rows.specs.Rows.{words_at}

-- the names of the nets of connections
abbrev pub named : List (List ℕ) → List Conn → List (List ℕ)
named nets conns = map (λ c. name_at nets c.net) conns

-- `.inputs NET`
pub record IsInputSaid (nets : List (List ℕ)) (atom : Atom) (said : List Said) : Type 0 where
  pub out : IsPin (codes "out") atom.outs
  pub is : said ≡ says_inputs (name_at nets out.conn.net ∷ []) ∷ []

-- `.outputs NET`
pub record IsOutputSaid (nets : List (List ℕ)) (atom : Atom) (said : List Said) : Type 0 where
  pub taken : IsPin (codes "in") atom.ins
  pub is : said ≡ says_outputs (name_at nets taken.conn.net ∷ []) ∷ []

-- a row for each index at which a table is on, from this index on
abbrev pub row_lines : ℕ → ℕ → List Bool → List Said
row_lines inputs index [] = []
row_lines inputs index (bit ∷ bits) =
    if bit then says_row (words_at inputs index) ∷ row_lines inputs (index + 1) bits
    else row_lines inputs (index + 1) bits

-- `.names IN .. OUT` and its rows
pub record IsLutSaid (nets : List (List ℕ)) (atom : Atom) (said : List Said) : Type 0 where
  pub out : IsPin (codes "out") atom.outs
  pub is : said ≡ says_names (named nets atom.ins) (name_at nets out.conn.net) ∷ row_lines (length atom.ins) 0 atom.table

-- `.latch IN OUT re CONTROL`
pub record IsLatchSaid (nets : List (List ℕ)) (atom : Atom) (said : List Said) : Type 0 where
  pub ins : AreLatchPins atom.ins
  pub out : IsPin (codes "out") atom.outs
  pub is : said ≡ says_latch (name_at nets ins.data_pin.net) (name_at nets out.conn.net) (name_at nets ins.control.net) ∷ []

-- the words of the pins of a box
abbrev pub pin_words : List (List ℕ) → List Conn → List (List ℕ)
pin_words nets pins = map (λ c. pin_word c.port c.bit (name_at nets c.net)) pins

-- `.param NAME VALUE` for each
abbrev pub param_lines : List (List ℕ × List ℕ) → List Said
param_lines params = map (λ p. says_param p.0 p.1) params

-- `.subckt MODEL FORMAL=NET ..`, its pins in an order in which their nets can be mentioned, and its
-- parameters
pub record IsBoxSaid (models : List CellModel) (nets : List (List ℕ)) (number : ℕ) (atom : Atom) (said : List Said) : Type 0 where
  pub model : CellModel
  pub there : slice_get models number ≡ Some model
  pub pins : List Conn
  pub ordered : IsPinOrder atom pins
  pub is : said ≡ says_box model.name (pin_words nets pins) ∷ param_lines atom.params

abbrev pub IsKindSaid : List CellModel → List (List ℕ) → AtomKind → Atom → List Said → Type 0
IsKindSaid models nets InPad atom said = IsInputSaid nets atom said
IsKindSaid models nets OutPad atom said = IsOutputSaid nets atom said
IsKindSaid models nets Lut atom said = IsLutSaid nets atom said
IsKindSaid models nets Latch atom said = IsLatchSaid nets atom said
IsKindSaid models nets (Cell number) atom said = IsBoxSaid models nets number atom said

-- the lines of the atom say this
abbrev pub IsSaidOf : List CellModel → List (List ℕ) → Atom → List Said → Type 0
IsSaidOf models nets atom said = IsKindSaid models nets atom.kind atom said

-- those of these atoms, one atom after the other
abbrev pub AreSaidOf : List CellModel → List (List ℕ) → List Atom → List Said → Type 0
AreSaidOf models nets [] said = said ≡ []
AreSaidOf models nets (atom ∷ atoms) said =
    (here : List Said) × (rest : List Said) × IsSaidOf models nets atom here × (said ≡ here ++ rest)
    × AreSaidOf models nets atoms rest
