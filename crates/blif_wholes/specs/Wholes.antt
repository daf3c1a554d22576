-- What is asked of the nets and atoms of a model as a whole, and which of it fails first.
use Rattle.std.specs.Prelude.{◌≡◌, ◌≤◌, ◌<◌, ◌⊎◌, ℕ, List, length}
use Rattle.arch_types.specs.declared.arch.CellModel.{CellModel}
use Rattle.blif_errors.specs.declared.error.BlifError.{BlifError}
use Rattle.blif_errors.specs.declared.error.BlifError.TheVariants.{Limit, NoDriver, CombLoop}
use Rattle.net_types.specs.declared.parts.NetlistParts.{NetlistParts}
use Rattle.net_faults.specs.Drivers.{IsFirstUnmade, AreMade}
use Rattle.net_faults.specs.Loops.{IsLeastLoop}
use Rattle.blif_parts.specs.declared.parts.ModelParts.{ModelParts}
use Rattle.blif_parts.specs.Atoms.{net_of}
use Rattle.blif_parts.specs.Facts.{IsModel}

-- the parts keep what every model of a file keeps
abbrev pub IsOfLines : ModelParts → Type 0
IsOfLines parts = (models : List CellModel) × IsModel models parts

-- the nets and the atoms of such a model
pub record IsOfModel (n : NetlistParts) : Type 0 where
  pub parts : ModelParts
  pub of_lines : IsOfLines parts
  pub are : n ≡ net_of parts

-- the first net without a driver, or else the least cycle through LUTs
abbrev pub IsFaulty : NetlistParts → BlifError → Type 0
IsFaulty n e =
    ((name : List ℕ) × IsFirstUnmade n.nets n.atoms name × (e ≡ NoDriver name))
    ⊎ (AreMade (length n.nets) n.atoms
    × ((names : List (List ℕ)) × IsLeastLoop n.atoms names × (e ≡ CombLoop names)))

-- there are more than 65,536 atoms, or else there is such a fault
abbrev pub IsWholeRefused : NetlistParts → BlifError → Type 0
IsWholeRefused n e =
    ((65536 < length n.atoms) × (e ≡ Limit)) ⊎ ((length n.atoms ≤ 65536) × IsFaulty n e)
