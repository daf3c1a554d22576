-- The lines of an atom (BLIF, "Models", "Logic gates", "Generic latches", "Subcircuits"). A blank
-- stands at the end of a line behind its last name, since a name may end in `\`, which would join
-- the next line.
use Rattle.std.specs.Prelude.{◌≡◌, ◌<◌, ℕ, List, [], ◌∷◌, ◌++◌, Some, codes, length, slice_get}
use Rattle.std.specs.List.{All}
use Rattle.arch_types.specs.declared.arch.CellModel.{CellModel}
use Rattle.arch_types.specs.declared.block.AtomKind.{AtomKind}
use Rattle.arch_types.specs.declared.block.AtomKind.TheVariants.{InPad, OutPad, Lut, Latch, Cell}
use Rattle.net_types.specs.declared.atom.Atom.{Atom}
use Rattle.net_types.specs.declared.atom.Conn.{Conn}
use Rattle.blif_order.specs.Orders.{IsPinOrder}
use Rattle.blif_text.specs.Words.{spaced, nets_text}
use Rattle.blif_text.specs.Rows.{rows_text}
use Rattle.blif_text.specs.Boxes.{pins_text, params_text}

-- `.inputs NET`
abbrev pub input_text : List (List ℕ) → Atom → List ℕ
input_text nets atom = codes ".inputs" ++ (nets_text nets atom.outs ++ 32 ∷ 10 ∷ [])

-- `.outputs NET`
abbrev pub output_text : List (List ℕ) → Atom → List ℕ
output_text nets atom = codes ".outputs" ++ (nets_text nets atom.ins ++ 32 ∷ 10 ∷ [])

-- `.names IN .. OUT` and its rows
abbrev pub lut_text : List (List ℕ) → Atom → List ℕ
lut_text nets atom =
    codes ".names" ++ (nets_text nets atom.ins ++ (nets_text nets atom.outs ++ 32 ∷ 10 ∷ rows_text (length atom.ins) 0 atom.table))

-- the data pin and the output, then the control pin
abbrev pub latch_nets_text : List (List ℕ) → List Conn → List Conn → List ℕ
latch_nets_text nets [] outs = nets_text nets outs
latch_nets_text nets (data_pin ∷ control) outs =
    nets_text nets (data_pin ∷ []) ++ (nets_text nets outs ++ (spaced (codes "re") ++ nets_text nets control))

-- `.latch IN OUT re CONTROL`
abbrev pub latch_text : List (List ℕ) → Atom → List ℕ
latch_text nets atom = codes ".latch" ++ (latch_nets_text nets atom.ins atom.outs ++ 32 ∷ 10 ∷ [])

-- `.subckt MODEL FORMAL=NET ..`, and a line `.param` for each parameter
abbrev pub box_text : List (List ℕ) → CellModel → List Conn → Atom → List ℕ
box_text nets model pins atom =
    codes ".subckt" ++ (spaced model.name ++ (pins_text nets pins ++ 32 ∷ 10 ∷ params_text atom.params))

-- a box of this model, its pins in an order in which its line can mention their nets
pub record IsBoxText (models : List CellModel) (nets : List (List ℕ)) (number : ℕ) (atom : Atom) (text : List ℕ) : Type 0 where
  pub model : CellModel
  pub there : slice_get models number ≡ Some model
  pub pins : List Conn
  pub ordered : IsPinOrder atom pins
  pub is : text ≡ box_text nets model pins atom

-- such a text is appended
pub record IsBoxPut (model : CellModel) (nets : List (List ℕ)) (atom : Atom) (old new : List ℕ) : Type 0 where
  pub pins : List Conn
  pub ordered : IsPinOrder atom pins
  pub is : new ≡ old ++ box_text nets model pins atom

abbrev pub IsKindText : List CellModel → List (List ℕ) → AtomKind → Atom → List ℕ → Type 0
IsKindText models nets InPad atom text = text ≡ input_text nets atom
IsKindText models nets OutPad atom text = text ≡ output_text nets atom
IsKindText models nets Lut atom text = text ≡ lut_text nets atom
IsKindText models nets Latch atom text = text ≡ latch_text nets atom
IsKindText models nets (Cell number) atom text = IsBoxText models nets number atom text

-- the text is the lines of the atom
abbrev pub IsAtomText : List CellModel → List (List ℕ) → Atom → List ℕ → Type 0
IsAtomText models nets atom text = IsKindText models nets atom.kind atom text

-- what the writer needs of an atom
pub record IsWritable (models : List CellModel) (nets : List (List ℕ)) (atom : Atom) : Type 0 where
  pub ins : All (λ c. c.net < length nets) atom.ins
  pub outs : All (λ c. c.net < length nets) atom.outs
  pub of_model : (number : ℕ) → atom.kind ≡ Cell number → number < length models
