-- What the owners at each address of a block type say (FPGA assembly metadata of VTR architectures).
use Rattle.std.specs.Prelude.{◌≡◌, ℕ, List, Option, Some, None, slice_get}
use Rattle.arch_types.specs.declared.block.PbType.{PbType}
use Rattle.arch_types.specs.declared.block.Mode.{Mode}
use Rattle.arch_types.specs.declared.block.Inter.{Inter}
use Rattle.arch_types.specs.Address.{Address, at}
use Rattle.arch_types.specs.Tree.{modes_of, inters_of, metas_of}
use Rattle.meta_lines.specs.declared.types.PinFeatures.{PinFeatures}
use Rattle.meta_said.specs.declared.types.OwnerMeta.{OwnerMeta}
use Rattle.meta_said.specs.Inters.{SaysInter}
use Rattle.lut_widths.specs.Fields.{UsesOfMode, UsesOfPbType}
use Rattle.meta_block.specs.Owners.{SaysOwn}

abbrev pub PbTypeSays : PbType → OwnerMeta → Type 0
PbTypeSays p said = SaysOwn (Some p.count) p.metas (λ fields. UsesOfPbType p fields) said

abbrev pub ModeSays : Mode → OwnerMeta → Type 0
ModeSays mode said = SaysOwn None (metas_of mode) (λ fields. UsesOfMode mode fields) said

-- the pb_type at each address, each of its modes and each interconnect of these
pub record OwnersSay (block : PbType) : Type 0 where
  pub pb_types : (a : Address) (p : PbType) → at block a ≡ Some p → (said : OwnerMeta) × PbTypeSays p said
  pub modes : (a : Address) (p : PbType) (n : ℕ) (mode : Mode) → at block a ≡ Some p → slice_get (modes_of p.kind) n ≡ Some mode →
      (said : OwnerMeta) × ModeSays mode said
  pub inters : (a : Address) (p : PbType) (n i : ℕ) (mode : Mode) (inter : Inter) → at block a ≡ Some p → slice_get (modes_of p.kind) n ≡ Some mode →
      slice_get (inters_of mode) i ≡ Some inter → (given : Option (List PinFeatures)) × SaysInter p mode inter given
