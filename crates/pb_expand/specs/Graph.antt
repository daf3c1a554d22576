-- What a `PbGraph` is to callers: the block type's tree, and its instances, pins and edges by number.
use Rattle.std.specs.Prelude.{◌≡◌, ◌==◌, ◌&&◌, ◌<◌, ◌+◌, ℕ, Bool, List, [], ◌∷◌, ◌++◌, Option, Some, map, length, slice_get, if◌then◌else◌}
use Rattle.std.specs.Option.{option_map_or, option_and_then}
use Rattle.vtr_base.specs.Lists.{up_from}
use Rattle.arch_types.specs.declared.block.PbType.{PbType}
use Rattle.arch_types.specs.declared.block.Port.{Port}
use Rattle.arch_types.specs.declared.block.AtomKind.TheVariants as atom
use Rattle.arch_types.specs.declared.block.Kind.{Kind, out-Kind}
use Rattle.arch_types.specs.declared.block.Kind.TheOpen.{InPad, OutPad, Lut, Latch, Cell, Modes}
use Rattle.arch_types.specs.declared.block.Mode.{Mode}
use Rattle.arch_types.specs.declared.block.Inter.{Inter}
use Rattle.arch_types.specs.Tree.{modes_of, inters_of}
use Rattle.arch_types.specs.Address.{Address, Hop, at, step_to, instances_of}
use Rattle.pb_expand.specs.declared.number.PbIx.{PbIx}
use Rattle.pb_expand.specs.declared.number.PinIx.{PinIx}
use Rattle.pb_expand.specs.declared.number.EdgeIx.{EdgeIx}
use Rattle.pb_expand.specs.declared.number.PinAt.{PinAt}
use Rattle.pb_expand.specs.declared.number.Edge.{Edge}
use Rattle.pb_expand.specs.declared.number.Step.{Step}
use Rattle.pb_expand.specs.declared.number.PbKind.{PbKind}
use Rattle.pb_expand.specs.declared.number.PbKind.TheVariants as kinds

pub record Graph : Type 0 where
  pub block : ℕ  -- the number of the block type
  pub root : PbType  -- its tree
  pub instances : List Address  -- the instance of number n stands at place n
  pub pins : List PinAt
  pub edges : List Edge

abbrev pub pb_ix : ℕ → PbIx
pb_ix n = record { 0 = n }

abbrev pub pin_ix : ℕ → PinIx
pin_ix n = record { 0 = n }

abbrev pub edge_ix : ℕ → EdgeIx
edge_ix n = record { 0 = n }

abbrev pub pin_at : ℕ → ℕ → ℕ → PinAt
pin_at pb port bit = record { pb = pb_ix pb; port = port; bit = bit }

-- the ports of the instance at an address
abbrev pub ports_at : PbType → Address → List Port
ports_at root address = option_map_or (λ (block : PbType). block.ports) (at root address) []

-- the pb_type of the instance of number n
abbrev pub block_at : Graph → ℕ → Option PbType
block_at g n = option_and_then (λ address. at g.root address) (slice_get g.instances n)

-- the ports of the instance of number n
abbrev pub ports_of : Graph → ℕ → List Port
ports_of g n = option_map_or (λ (block : PbType). block.ports) (block_at g n) []

-- that mode of the instance of number n
abbrev pub mode_at : Graph → ℕ → ℕ → Option Mode
mode_at g n mode = option_and_then (λ (block : PbType). slice_get (modes_of block.kind) mode) (block_at g n)

-- the interconnect that gives an edge
abbrev pub inter_of : Graph → Edge → Option Inter
inter_of g e = option_and_then (λ mode. slice_get (inters_of mode) e.inter) (mode_at g e.owner.0 e.mode)

-- the pins of instance `pb`, port by port from that number on, and of each its bits
abbrev pub pins_of_ports : ℕ → ℕ → List Port → List PinAt
pins_of_ports pb port [] = []
pins_of_ports pb port (p ∷ ps) = map (pin_at pb port) (up_from 0 p.width) ++ pins_of_ports pb (port + 1) ps

-- the pins of instances that are numbered from n on
abbrev pub pins_from : PbType → ℕ → List Address → List PinAt
pins_from root n [] = []
pins_from root n (address ∷ addresses) = pins_of_ports n 0 (ports_at root address) ++ pins_from root (n + 1) addresses

-- the pins of a block type: by instance in preorder, then by port, then by bit
abbrev pub pins_of : PbType → List PinAt
pins_of root = pins_from root 0 (instances_of root)

-- what a pb_type is
abbrev pub kind_of : Kind → PbKind
kind_of k = elim (out-Kind k) [
  | InPad ↦ kinds.Leaf atom.InPad
  | OutPad ↦ kinds.Leaf atom.OutPad
  | Lut ↦ kinds.Leaf atom.Lut
  | Latch ↦ kinds.Leaf atom.Latch
  | Cell model ↦ kinds.Leaf (atom.Cell model)
  | Modes modes ↦ kinds.Modes (length modes)
]

-- the numbers of the edges that pass a test, in their order, counted from n on
abbrev pub edges_with : (Edge → Bool) → ℕ → List Edge → List EdgeIx
edges_with passes n [] = []
edges_with passes n (e ∷ es) = if passes e then edge_ix n ∷ edges_with passes (n + 1) es else edges_with passes (n + 1) es

-- the numbers of the edges into a pin in one mode
abbrev pub into_from : ℕ → List Edge → ℕ → ℕ → List EdgeIx
into_from n es pin mode = edges_with (λ e. (e.dst.0 == pin) && (e.mode == mode)) n es

-- the step from instance `parent`
abbrev pub step_from : ℕ → ℕ → ℕ → ℕ → Step
step_from parent mode child instance =
    record { parent = pb_ix parent; mode = mode; child = child; instance = instance }

-- a step, without the instance that it leaves
abbrev pub hop_of : Step → Hop
hop_of s = record { mode = s.mode; child = s.child; instance = s.instance }

-- the instance of number n hangs on its parent by this step
pub record LeadsTo (instances : List Address) (s : Step) (n : ℕ) : Type 0 where
  pub before : s.parent.0 < n
  pub parent : Address
  pub is_parent : slice_get instances s.parent.0 ≡ Some parent
  pub is_child : slice_get instances n ≡ Some (step_to parent s.mode s.child s.instance)

-- the same hop to the first instance of the child
abbrev pub first_hop : Hop → Hop
first_hop hop = record { mode = hop.mode; child = hop.child; instance = 0 }

-- the address with the same modes and children, and everywhere the first instance
abbrev pub first_address : Address → Address
first_address address = map first_hop address
