-- The LUTs that an owner of metadata holds (FPGA assembly metadata: `fasm_lut`): those below it that
-- no owner nearer to them holds.
use Rattle.std.specs.Prelude.{◌≡◌, ◌<◌, ◌⊎◌, ℕ, List, [], ◌∷◌, Some, slice_get}
use Rattle.arch_types.specs.declared.block.PbType.{PbType}
use Rattle.arch_types.specs.declared.block.Kind.TheVariants.{Lut}
use Rattle.arch_types.specs.declared.block.Mode.{Mode}
use Rattle.arch_types.specs.declared.block.Port.{Port}
use Rattle.arch_types.specs.declared.block.Side.TheVariants.{Input}
use Rattle.arch_types.specs.Address.{Address}
use Rattle.arch_types.specs.Tree.{modes_of, kids_of, metas_of}
use Rattle.meta_said.specs.Owners.{HoldsLuts}

-- the first input port has k pins
abbrev pub HasInputs : List Port → ℕ → Type 0
HasInputs [] k = ⊥
HasInputs (p ∷ ps) k = ((p.side ≡ Input) × (k ≡ p.width)) ⊎ ((p.side ≡ Input → ⊥) × HasInputs ps k)

-- the pb_type is a LUT of k inputs
pub record IsLutOf (leaf : PbType) (k : ℕ) : Type 0 where
  pub lut : leaf.kind ≡ Lut
  pub inputs : HasInputs leaf.ports k

-- a mode of the pb_type, by its number, that doesn't hold LUTs itself
pub record IsOpenMode (block : PbType) (number : ℕ) (mode : Mode) : Type 0 where
  pub there : slice_get (modes_of block.kind) number ≡ Some mode
  pub bare : HoldsLuts (metas_of mode) → ⊥

-- an instance of a child of the mode that doesn't hold LUTs itself
pub record IsOpenChild (mode : Mode) (child instance : ℕ) (kid : PbType) : Type 0 where
  pub there : slice_get (kids_of mode) child ≡ Some kid
  pub inside : instance < kid.count
  pub bare : HoldsLuts kid.metas → ⊥

-- at the address below the pb_type there is a LUT of k inputs, and no owner below the pb_type that
-- stands above the LUT, or is the LUT, holds LUTs
abbrev pub IsHeldAt : PbType → Address → ℕ → Type 0
IsHeldAt block [] k = IsLutOf block k
IsHeldAt block (hop ∷ hops) k =
    (mode : Mode) × IsOpenMode block hop.mode mode
    × ((kid : PbType) × IsOpenChild mode hop.child hop.instance kid × IsHeldAt kid hops k)

-- a LUT of k inputs that the pb_type holds, if it holds LUTs: itself, or one below it
abbrev pub HoldsLut : PbType → ℕ → Type 0
HoldsLut block k = (hops : Address) × IsHeldAt block hops k

-- a LUT of k inputs that the mode holds, if it holds LUTs, in this instance of the child of that name
pub record HoldsInMode (mode : Mode) (name : List ℕ) (instance k : ℕ) : Type 0 where
  pub child : ℕ
  pub kid : PbType
  pub opens : IsOpenChild mode child instance kid
  pub named : kid.name ≡ name
  pub holds : HoldsLut kid k

-- a LUT of k inputs that the pb_type holds, if it holds LUTs, in this instance of a child of that name
pub record HoldsInside (block : PbType) (name : List ℕ) (instance k : ℕ) : Type 0 where
  pub number : ℕ
  pub mode : Mode
  pub opens : IsOpenMode block number mode
  pub holds : HoldsInMode mode name instance k
