-- The owners of metadata in a block type, in the order in which their metadata is read, and what they
-- say or which of them is the first that is refused.
use Rattle.std.specs.Prelude.{ℕ, List, [], ◌∷◌, ◌++◌, map}
use Rattle.std.specs.List.{flat_map}
use Rattle.arch_types.specs.declared.block.PbType.{PbType}
use Rattle.arch_types.specs.declared.block.Kind.{Kind, Modes', Row_of-Mode, end_of-Mode, more_of-Mode}
use Rattle.arch_types.specs.declared.block.Mode.{Mode, Mode', Row_of-PbType, end_of-PbType, more_of-PbType}
use Rattle.arch_types.specs.declared.block.Inter.{Inter}
use Rattle.arch_types.specs.Tree.{name_of_mode, kids_of, inters_of}
use Rattle.meta_lines.specs.Each.{Each}
use Rattle.meta_block.specs.declared.types.OwnerSaid.{OwnerSaid}
use Rattle.meta_block.specs.declared.error.MetaError.{MetaError}
use Rattle.meta_block.specs.Owners.{Owner, pb_type_at, mode_at, inter_at, SaysOwner, RefusesOwners}

abbrev pub way_to : List (List ℕ) → List ℕ → List (List ℕ)
way_to way name = way ++ name ∷ []

-- the interconnects of a mode, in file order
abbrev pub inter_owners : List (List ℕ) → PbType → Mode → List Owner
inter_owners way block mode = map (λ (inter : Inter). inter_at (way_to way inter.name) block mode inter) (inters_of mode)

abbrev mutual
  -- the owners in the modes of a pb_type, at the end of the way
  pub kind_owners : List (List ℕ) → PbType → Kind → List Owner
  kind_owners way block (Modes' n modes) = modes_owners way block modes
  kind_owners way block _ = []

  pub modes_owners : {m : _} → List (List ℕ) → PbType → Row_of-Mode m → List Owner
  modes_owners way block end_of-Mode = []
  modes_owners way block (more_of-Mode m rest) = mode_owners way block m ++ modes_owners way block rest

  -- a mode, its interconnects, and then its children with the owners in them
  pub mode_owners : List (List ℕ) → PbType → Mode → List Owner
  mode_owners way block (Mode' name n kids inters metas) =
      let mode = Mode' name n kids inters metas in
      mode_at (way_to way (name_of_mode mode)) mode ∷ (inter_owners (way_to way (name_of_mode mode)) block mode ++ kids_owners (way_to way (name_of_mode mode)) kids)

  pub kids_owners : {m : _} → List (List ℕ) → Row_of-PbType m → List Owner
  kids_owners way end_of-PbType = []
  kids_owners way (more_of-PbType name count ports kind metas rest) =
      (pb_type_at (way_to way name) (record { name = name; count = count; ports = ports; kind = kind; metas = metas })
      ∷ kind_owners (way_to way name) (record { name = name; count = count; ports = ports; kind = kind; metas = metas }) kind)
      ++ kids_owners way rest

-- a pb_type at the end of the way, and then mode by mode what stands in it
abbrev pub opened : List (List ℕ) → PbType → List Owner
opened way block = pb_type_at way block ∷ kind_owners way block block.kind

-- the same, where the way leads to its parent
abbrev pub owners_below : List (List ℕ) → PbType → List Owner
owners_below way block = opened (way_to way block.name) block

-- a mode at the end of the way, its interconnects, and its children with the owners in them
abbrev pub opened_mode : List (List ℕ) → PbType → Mode → List Owner
opened_mode way block mode = mode_at way mode ∷ (inter_owners way block mode ++ flat_map (owners_below way) (kids_of mode))

-- the owners of a block type
abbrev pub owners_of : PbType → List Owner
owners_of block = owners_below [] block

-- what the metadata of a block type says, owner by owner
abbrev pub SaysBlock : PbType → List OwnerSaid → Type 0
SaysBlock block saids = Each SaysOwner (owners_of block) saids

-- why it is refused
abbrev pub RefusesBlock : PbType → MetaError → Type 0
RefusesBlock block e = RefusesOwners (owners_of block) e
