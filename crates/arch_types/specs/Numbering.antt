-- The preorder of a block type numbers its instances.
use Rattle.std.specs.Prelude.{◌≡◌, ◌↔◌, ℕ, List, Some, IsSome, slice_get}
use Rattle.vtr_base.specs.Lists.{Has}
use Rattle.arch_types.specs.declared.block.PbType.{PbType}
use Rattle.arch_types.specs.Address.{Address, at}

-- the list has exactly the addresses at which there is an instance, and none twice
pub record IsNumbering (block : PbType) (instances : List Address) : Type 0 where
  pub exact : (a : Address) → Has instances a ↔ IsSome (at block a)
  pub once : (i j : ℕ) (a : Address) → slice_get instances i ≡ Some a → slice_get instances j ≡ Some a → i ≡ j
