-- The bits of the choices of a block type's sites by address, without the prefix of a location (FPGA
-- assembly metadata of VTR architectures): features in the order of the metadata, of several that set the
-- same bit the first.
use Rattle.std.specs.Prelude.{◌≡◌, ◌⊎◌, ℕ, List, [], ◌∷◌, ◌++◌, Option, Some, None, map, slice_get}
use Rattle.arch_types.specs.declared.block.PbType.{PbType}
use Rattle.arch_types.specs.declared.block.Mode.{Mode}
use Rattle.arch_types.specs.declared.block.Inter.{Inter}
use Rattle.arch_types.specs.Address.{Address, at}
use Rattle.arch_types.specs.Tree.{modes_of, inters_of, metas_of}
use Rattle.mode_edges.specs.declared.pin.LocalPin.{LocalPin}
use Rattle.meta_lines.specs.declared.types.Feature.{Feature}
use Rattle.meta_lines.specs.declared.types.PinFeatures.{PinFeatures}
use Rattle.meta_said.specs.declared.types.OwnerMeta.{OwnerMeta}
use Rattle.meta_said.specs.Owners.{Says}
use Rattle.meta_said.specs.Inters.{SaysInter}
use Rattle.kept_features.specs.Firsts.{KeepsFirsts}
use Rattle.site_bits.specs.Paths.{AreWords, prefixed}

-- features that may be said
abbrev pub listed : Option (List Feature) → List Feature
listed None = []
listed (Some features) = features

-- the features of a pb_type, which belong to a location where it is a root
abbrev pub below_root : Address → OwnerMeta → List Feature
below_root [] said = []
below_root (hop ∷ hops) said = listed said.features

-- of these features those that are kept, behind the prefixes of the instance
pub record AreBits (block : PbType) (a : Address) (features bits : List Feature) : Type 0 where
  pub kept : List Feature
  pub keeps : KeepsFirsts features kept
  pub words : List (List ℕ)
  pub are : AreWords block a words
  pub is : bits ≡ map (prefixed words) kept

-- the choice of the block type at a location: the features of its root
pub record AreRootBits (block : PbType) (bits : List Feature) : Type 0 where
  pub said : OwnerMeta
  pub says : Says (Some block.count) block.metas said
  pub are : AreBits block [] (listed said.features) bits

-- the choice of a mode of the instance at the address: the features of its pb_type, if it is no root, and
-- then those of the mode
pub record AreModeBits (block : PbType) (a : Address) (number : ℕ) (bits : List Feature) : Type 0 where
  pub p : PbType
  pub there : at block a ≡ Some p
  pub own : OwnerMeta
  pub own_says : Says (Some p.count) p.metas own
  pub mode : Mode
  pub is : slice_get (modes_of p.kind) number ≡ Some mode
  pub said : OwnerMeta
  pub says : Says None (metas_of mode) said
  pub are : AreBits block a (below_root a own ++ listed said.features) bits

-- the use of the leaf at the address: its features, if it is no root
pub record AreUseBits (block : PbType) (a : Address) (bits : List Feature) : Type 0 where
  pub p : PbType
  pub there : at block a ≡ Some p
  pub said : OwnerMeta
  pub says : Says (Some p.count) p.metas said
  pub are : AreBits block a (below_root a said) bits

-- the features of the first of the lines that is for the pin; none where no line is
abbrev pub AreOfLine : List PinFeatures → LocalPin → List Feature → Type 0
AreOfLine [] pin features = features ≡ []
AreOfLine (line ∷ lines) pin features =
    ((line.pin ≡ pin) × (features ≡ line.features)) ⊎ ((line.pin ≡ pin → ⊥) × AreOfLine lines pin features)

-- the same of lines that may be said
abbrev pub AreOfPin : Option (List PinFeatures) → LocalPin → List Feature → Type 0
AreOfPin None pin features = features ≡ []
AreOfPin (Some lines) pin features = AreOfLine lines pin features

-- the choice of an edge that an interconnect of a mode of the instance at the address gives, from that
-- source, which is seen from the instance
pub record AreEdgeBits (block : PbType) (a : Address) (number place : ℕ) (source : LocalPin) (bits : List Feature) : Type 0 where
  pub p : PbType
  pub there : at block a ≡ Some p
  pub mode : Mode
  pub is : slice_get (modes_of p.kind) number ≡ Some mode
  pub inter : Inter
  pub is_inter : slice_get (inters_of mode) place ≡ Some inter
  pub given : Option (List PinFeatures)
  pub says : SaysInter p mode inter given
  pub features : List Feature
  pub of_pin : AreOfPin given source features
  pub are : AreBits block a features bits
