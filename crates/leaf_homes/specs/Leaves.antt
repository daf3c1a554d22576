-- Which leaves of a block type can hold an atom (VTR architecture reference, "Primitives").
use Rattle.std.specs.Prelude.{◌≡◌, ℕ, List, Some, slice_get}
use Rattle.arch_types.specs.declared.block.PbType.{PbType}
use Rattle.arch_types.specs.declared.block.AtomKind.{AtomKind}
use Rattle.net_types.specs.declared.atom.Atom.{Atom}
use Rattle.pb_expand.specs.Graph.{Graph, block_at, kind_of}
use Rattle.pb_expand.specs.declared.number.PbKind.TheVariants.{Leaf}
use Rattle.atom_homes.specs.Homes.{Fits}

-- the instance is a leaf, whose kind and ports fit the atom
pub record HoldsAt (g : Graph) (atom : Atom) (leaf : ℕ) : Type 0 where
  pub block : PbType
  pub is_block : block_at g leaf ≡ Some block
  pub kind : AtomKind
  pub is_leaf : kind_of block.kind ≡ Leaf kind
  pub fits : Fits kind atom block.ports

-- the leaf can hold the atom of that number
pub record CanHold (atoms : List Atom) (g : Graph) (atom leaf : ℕ) : Type 0 where
  pub found : Atom
  pub is_atom : slice_get atoms atom ≡ Some found
  pub held : HoldsAt g found leaf
