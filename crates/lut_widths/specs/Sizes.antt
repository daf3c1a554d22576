-- The sizes of the LUTs in a part of a tree, as far as they tell whether a width fits all of them.
use Rattle.std.specs.Prelude.{◌≡◌, ◌==◌, ◌<◌, ◌^◌, ℕ, List, if◌then◌else◌}
use Rattle.vtr_base.specs.Lists.{Has}
use Rattle.arch_types.specs.declared.block.PbType.{PbType}
use Rattle.arch_types.specs.declared.block.Mode.{Mode}
use Rattle.arch_types.specs.Tree.{kids_of, metas_of}
use Rattle.meta_said.specs.Owners.{HoldsLuts}
use Rattle.lut_widths.specs.Held.{HoldsLut}
use Rattle.lut_widths.specs.declared.sizes.LutSizes.{LutSizes}
use Rattle.lut_widths.specs.declared.sizes.LutSizes.TheVariants.{NoLut, Single, Several}

-- what these sizes say of the numbers of inputs of which this holds
abbrev pub AreSizes : (ℕ → Type 0) → LutSizes → Type 0
AreSizes Holds NoLut = (k : ℕ) → Holds k → ⊥
AreSizes Holds (Single k) = Holds k × ((j : ℕ) → Holds j → j ≡ k)
AreSizes Holds (Several k j) = Holds k × Holds j × (k ≡ j → ⊥)

-- the sizes of both
abbrev pub both : LutSizes → LutSizes → LutSizes
both NoLut b = b
both (Several k j) b = Several k j
both (Single k) NoLut = Single k
both (Single k) (Single j) = if k == j then Single k else Several k j
both (Single k) (Several i j) = Several i j

-- this holds of k at some item of the list
pub record AtSome {X : Type 0} (Holds : X → ℕ → Type 0) (xs : List X) (k : ℕ) : Type 0 where
  pub item : X
  pub among : Has xs item
  pub holds : Holds item k

-- a LUT of k inputs in a child, where the child has instances and doesn't hold it
pub record InChild (kid : PbType) (k : ℕ) : Type 0 where
  pub some : 0 < kid.count
  pub bare : HoldsLuts kid.metas → ⊥
  pub holds : HoldsLut kid k

-- a LUT of k inputs in a mode, where the mode doesn't hold it
pub record InMode (mode : Mode) (k : ℕ) : Type 0 where
  pub bare : HoldsLuts (metas_of mode) → ⊥
  pub holds : AtSome InChild (kids_of mode) k

-- some LUT of these sizes has no table of so many bits
abbrev pub SizesMisfit : LutSizes → ℕ → Type 0
SizesMisfit NoLut width = ⊥
SizesMisfit (Single k) width = width ≡ 2 ^ k → ⊥
SizesMisfit (Several k j) width = Unit {0}
