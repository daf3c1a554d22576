-- The pb_types of a tree in preorder: each before those in it, by mode, then by child. One that
-- its parent has several times stands once.
use Rattle.std.specs.Prelude.{List, [], ◌∷◌, ◌++◌}
use Rattle.arch_types.specs.declared.block.PbType.{PbType}
use Rattle.arch_types.specs.declared.block.Kind.{Kind, Modes', Row_of-Mode, end_of-Mode, more_of-Mode}
use Rattle.arch_types.specs.declared.block.Mode.{Mode, Mode', Row_of-PbType, end_of-PbType, more_of-PbType}

abbrev mutual
  -- the pb_types in the modes of a kind
  pub inside : Kind → List PbType
  inside (Modes' n modes) = inside_modes modes
  inside _ = []

  pub inside_modes : {m : _} → Row_of-Mode m → List PbType
  inside_modes end_of-Mode = []
  inside_modes (more_of-Mode m rest) = inside_mode m ++ inside_modes rest

  pub inside_mode : Mode → List PbType
  inside_mode (Mode' name n kids inters metas) = preorders kids

  pub preorders : {m : _} → Row_of-PbType m → List PbType
  preorders end_of-PbType = []
  preorders (more_of-PbType name count ports kind metas rest) =
      record { name = name; count = count; ports = ports; kind = kind; metas = metas } ∷ (inside kind ++ preorders rest)

-- a pb_type, and then those in it
abbrev pub preorder : PbType → List PbType
preorder block = block ∷ inside block.kind
