-- What holds of each model that lines say, whatever else is asked of it: all that a netlist keeps,
-- but that its atoms are few, that each net is driven, and that no cycle runs through LUTs.
use Rattle.std.specs.Prelude.{◌≡◌, ◌<◌, ◌-◌, ◌^◌, ℕ, List, length, map}
use Rattle.std.specs.List.{All}
use Rattle.list_laws.specs.Orders.{Once}
use Rattle.arch_types.specs.declared.arch.CellModel.{CellModel}
use Rattle.net_types.specs.declared.atom.Atom.{Atom}
use Rattle.net_types.specs.Atoms.{IsAtom}
use Rattle.net_types.specs.Ends.{IsMaker}
use Rattle.net_types.specs.Fits.{FitsModels}
use Rattle.net_types.specs.Names.{AreNamed}
use Rattle.net_types.specs.Order.{AreGrouped, HaveLineOrder}
use Rattle.net_types.specs.WellFormed.{AreNets, HaveNets, count_conns}
use Rattle.blif_parts.specs.declared.parts.ModelParts.{ModelParts}
use Rattle.blif_parts.specs.Atoms.{atoms_of, net_of}

-- no net has two makers
abbrev pub HaveOneMaker : List Atom → Type 0
HaveOneMaker atoms = (net a i b j : ℕ) → IsMaker atoms net a i → IsMaker atoms net b j → (a ≡ b) × (i ≡ j)

pub record IsModel (models : List CellModel) (parts : ModelParts) : Type 0 where
  pub nets : AreNets parts.nets
  pub each : All IsAtom (atoms_of parts)
  pub grouped : AreGrouped (atoms_of parts)
  pub once : Once (map (λ a. a.name) (atoms_of parts))
  pub few_conns : count_conns (atoms_of parts) < 2 ^ 32 - 1
  pub named : AreNamed parts.nets (atoms_of parts)
  pub within : HaveNets (length parts.nets) (atoms_of parts)
  pub one_maker : HaveOneMaker (atoms_of parts)
  pub order : HaveLineOrder (length parts.nets) (atoms_of parts)
  pub fits : FitsModels models (net_of parts)
