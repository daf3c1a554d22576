-- The graphs of all block types of an architecture.
use Rattle.std.specs.Prelude.{◌≡◌, ◌<◌, ℕ, List, [], ◌∷◌, ◌++◌, Some, length, slice_get}
use Rattle.arch_types.specs.declared.block.PbType.{PbType}
use Rattle.pb_expand.specs.declared.all.BlockError.{BlockError}
use Rattle.pb_expand.specs.Graph.{Graph}
use Rattle.pb_expand.specs.Expansion.{IsExpansion}
use Rattle.pb_expand.specs.Types.{modes_in_tree}
use Rattle.pb_expand.specs.Refusals.{AreSound, IsTooLarge, IsRefusal}

-- the graph of number n is that of the block type of number n
pub record AreGraphs (blocks : List PbType) (graphs : List Graph) : Type 0 where
  pub all : length graphs ≡ length blocks
  pub number : (n : ℕ) (g : Graph) → slice_get graphs n ≡ Some g → g.block ≡ n
  pub root : (n : ℕ) (g : Graph) → slice_get graphs n ≡ Some g → slice_get blocks n ≡ Some g.root
  pub expansion : (n : ℕ) (g : Graph) → slice_get graphs n ≡ Some g → IsExpansion g
  pub sound : (n : ℕ) (g : Graph) → slice_get graphs n ≡ Some g → AreSound (modes_in_tree g.root)
  pub fits : (n : ℕ) (g : Graph) → slice_get graphs n ≡ Some g → IsTooLarge g.root → ⊥

-- a block type is refused, and all before it can be expanded
pub record IsFirstRefused (blocks : List PbType) (refused : BlockError) : Type 0 where
  pub root : PbType
  pub is_root : slice_get blocks refused.block ≡ Some root
  pub refusal : IsRefusal root refused.error
  pub sound : (n : ℕ) (before : PbType) → n < refused.block → slice_get blocks n ≡ Some before → AreSound (modes_in_tree before)
  pub fits : (n : ℕ) (before : PbType) → n < refused.block → slice_get blocks n ≡ Some before → IsTooLarge before → ⊥

-- a block type's graph goes last
pub record AddsGraph (root : PbType) (block : ℕ) (old new : List Graph) : Type 0 where
  pub graph : Graph
  pub is : new ≡ old ++ graph ∷ []
  pub number : graph.block ≡ block
  pub is_root : graph.root ≡ root
  pub expansion : IsExpansion graph
  pub sound : AreSound (modes_in_tree root)
  pub fits : IsTooLarge root → ⊥
