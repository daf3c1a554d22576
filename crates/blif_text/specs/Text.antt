-- The text of a netlist: one model, whose lines number the nets by first mention (BLIF, "Models").
use Rattle.std.specs.Prelude.{◌≡◌, ℕ, List, [], ◌∷◌, ◌++◌, codes}
use Rattle.arch_types.specs.declared.arch.CellModel.{CellModel}
use Rattle.net_types.specs.declared.atom.Atom.{Atom}
use Rattle.net_types.specs.declared.parts.NetlistParts.{NetlistParts}
use Rattle.blif_order.specs.Orders.{IsLineOrder}
use Rattle.blif_text.specs.Atoms.{IsAtomText}

-- the lines of these atoms, one atom after the other
abbrev pub AreAtomTexts : List CellModel → List (List ℕ) → List Atom → List ℕ → Type 0
AreAtomTexts models nets [] text = text ≡ []
AreAtomTexts models nets (atom ∷ atoms) text =
    (here : List ℕ) × (rest : List ℕ) × IsAtomText models nets atom here × (text ≡ here ++ rest)
    × AreAtomTexts models nets atoms rest

-- the first line, which names the model
abbrev pub head_text : List ℕ
head_text = codes ".model top" ++ 10 ∷ []

abbrev pub end_text : List ℕ
end_text = codes ".end" ++ 10 ∷ []

-- the text spells the netlist, for these models
pub record SpellsNetlist (models : List CellModel) (n : NetlistParts) (text : List ℕ) : Type 0 where
  pub lines : List Atom
  pub ordered : IsLineOrder n lines
  pub body : List ℕ
  pub are : AreAtomTexts models n.nets lines body
  pub is : text ≡ head_text ++ (body ++ end_text)
