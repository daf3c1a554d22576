-- What the text of a netlist says, statement by statement.
use Rattle.std.specs.Prelude.{ℕ, List, [], ◌∷◌, ◌++◌, codes}
use Rattle.std.specs.List.{AllZip}
use Rattle.arch_types.specs.declared.arch.CellModel.{CellModel}
use Rattle.arch_types.specs.Models.{AreModels}
use Rattle.net_types.specs.declared.atom.Atom.{Atom}
use Rattle.net_types.specs.declared.parts.NetlistParts.{NetlistParts}
use Rattle.net_types.specs.Fits.{FitsModels}
use Rattle.net_types.specs.WellFormed.{IsNetlist}
use Rattle.blif_lines.specs.Lines.{LineSaid, AreLines}
use Rattle.blif_phases.specs.Phases.{HasWords}
use Rattle.blif_elems.specs.Statements.{Said, says_model, says_end, WordsSay}
use Rattle.blif_order.specs.Orders.{IsLineOrder}
use Rattle.blif_text.specs.Text.{SpellsNetlist}
use Rattle.said_texts.specs.Statements.{AreSaidOf}

-- the words of the line say this
pub record Tells (l : LineSaid) (s : Said) : Type 0 where
  pub words : List (List ℕ)
  pub has : HasWords l words
  pub says : WordsSay words s

-- behind `.model top` and before `.end`
abbrev pub framed : List Said → List Said
framed said = says_model (codes "top") ∷ (said ++ says_end ∷ [])

-- the lines of the text say the statements of the atoms, in an order of lines that numbers the nets
pub record HasStatements (models : List CellModel) (n : NetlistParts) (text : List ℕ) : Type 0 where
  pub lines : List Atom
  pub ordered : IsLineOrder n lines
  pub said : List Said
  pub are : AreSaidOf models n.nets lines said
  pub ls : List LineSaid
  pub read : AreLines text ls
  pub each : AllZip Tells ls (framed said)

abbrev pub SayStatements : Type 0
SayStatements =
    (models : List CellModel) (n : NetlistParts) (text : List ℕ) → AreModels models → IsNetlist n →
    FitsModels models n → SpellsNetlist models n text → HasStatements models n text
