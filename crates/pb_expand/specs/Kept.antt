-- What every graph keeps besides being the expansion of its block type.
use Rattle.std.specs.Prelude.{◌≡◌, ◌≢◌, ◌<◌, ◌^◌, ℕ, Some, IsSome, length, slice_get}
use Rattle.vtr_base.specs.Lists.{Has}
use Rattle.arch_types.specs.declared.block.PbType.{PbType}
use Rattle.arch_types.specs.declared.block.Port.{Port}
use Rattle.arch_types.specs.declared.block.Side.{Side}
use Rattle.arch_types.specs.declared.block.Side.TheVariants.{Output}
use Rattle.arch_types.specs.Tree.{modes_of}
use Rattle.arch_types.specs.Address.{Address, step_to}
use Rattle.pb_expand.specs.declared.number.PinAt.{PinAt}
use Rattle.pb_expand.specs.declared.number.Edge.{Edge}
use Rattle.pb_expand.specs.Graph.{Graph, block_at, mode_at, step_from, LeadsTo}
use Rattle.pb_expand.specs.OneOwner.{HasOneOwner}
use Rattle.pb_expand.specs.Types.{modes_in_tree}
use Rattle.pb_expand.specs.Refusals.{AreSound, IsTooLarge}

-- the port of the pin, and its side
pub record IsOn (g : Graph) (pin : PinAt) (side : Side) : Type 0 where
  pub block : PbType
  pub is_block : block_at g pin.pb.0 ≡ Some block
  pub port : Port
  pub is_port : slice_get block.ports pin.port ≡ Some port
  pub on : port.side ≡ side

-- the edge's mode has the instance of that number as a child's
pub record IsBelow (g : Graph) (e : Edge) (pb : ℕ) : Type 0 where
  pub child : ℕ
  pub instance : ℕ
  pub leads : LeadsTo g.instances (step_from e.owner.0 e.mode child instance) pb

-- where edges lead: into an output of their own instance, or into an input or a clock of an instance
-- that its mode has; so none leads into an input or a clock of the block type itself
pub record HasSides (g : Graph) : Type 0 where
  pub modes : (e : Edge) → Has g.edges e → IsSome (mode_at g e.owner.0 e.mode)
  pub own : (e : Edge) (pin : PinAt) → Has g.edges e → slice_get g.pins e.dst.0 ≡ Some pin → IsOn g pin Output → e.owner ≡ pin.pb
  pub below : (e : Edge) (pin : PinAt) (side : Side) → Has g.edges e → slice_get g.pins e.dst.0 ≡ Some pin → IsOn g pin side → side ≢ Output → IsBelow g e pin.pb.0
  pub root : (e : Edge) (pin : PinAt) → Has g.edges e → slice_get g.pins e.dst.0 ≡ Some pin → pin.pb.0 ≡ 0 → IsOn g pin Output

-- what is known of every graph besides
pub record IsKept (g : Graph) : Type 0 where
  pub number : g.block < 2 ^ 32
  pub sound : AreSound (modes_in_tree g.root)
  pub fits : IsTooLarge g.root → ⊥
  pub sides : HasSides g
  pub one_owner : HasOneOwner g
  -- parents come before the instances below them
  pub parents : (parent n mode child instance : ℕ) (a : Address) → slice_get g.instances parent ≡ Some a → slice_get g.instances n ≡ Some (step_to a mode child instance) →
      LeadsTo g.instances (step_from parent mode child instance) n
  pub few_ports : (n : ℕ) (block : PbType) → block_at g n ≡ Some block → length block.ports < 2 ^ 32
  pub few_modes : (n : ℕ) (block : PbType) → block_at g n ≡ Some block → length (modes_of block.kind) < 2 ^ 32
