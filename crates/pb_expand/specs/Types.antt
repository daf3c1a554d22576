-- The pb_types of a tree, each once however many instances it has, and their modes.
use Rattle.std.specs.Prelude.{List, [], ◌++◌, map}
use Rattle.arch_types.specs.declared.block.PbType.{PbType}
use Rattle.arch_types.specs.declared.block.Kind.{Kind, Modes', Row_of-Mode, end_of-Mode, more_of-Mode}
use Rattle.arch_types.specs.declared.block.Mode.{Mode, Mode', Row_of-PbType, end_of-PbType, more_of-PbType}
use Rattle.arch_types.specs.Tree.{modes_of}

-- a mode of a pb_type
pub record ModeOf : Type 0 where
  pub block : PbType
  pub mode : Mode

abbrev pub mode_of : PbType → Mode → ModeOf
mode_of block mode = record { block = block; mode = mode }

-- the modes of one pb_type, in file order
abbrev pub own_modes : PbType → List ModeOf
own_modes block = map (mode_of block) (modes_of block.kind)

-- the modes of all pb_types below one, in preorder: mode by mode, and of each its children
abbrev mutual
  pub modes_below : Kind → List ModeOf
  modes_below (Modes' n modes) = below_modes modes
  modes_below _ = []

  pub below_modes : {m : _} → Row_of-Mode m → List ModeOf
  below_modes end_of-Mode = []
  below_modes (more_of-Mode m rest) = below_mode m ++ below_modes rest

  pub below_mode : Mode → List ModeOf
  below_mode (Mode' name n kids inters metas) = below_kids kids

  pub below_kids : {m : _} → Row_of-PbType m → List ModeOf
  below_kids end_of-PbType = []
  below_kids (more_of-PbType name count ports kind metas rest) =
      (own_modes (record { name = name; count = count; ports = ports; kind = kind; metas = metas }) ++ modes_below kind) ++ below_kids rest

-- the modes of all pb_types of a tree in preorder: those of a pb_type come before those of its children
abbrev pub modes_in_tree : PbType → List ModeOf
modes_in_tree block = own_modes block ++ modes_below block.kind
