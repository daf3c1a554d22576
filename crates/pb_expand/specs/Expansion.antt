-- A graph is the expansion of its block type.
use Rattle.std.specs.Prelude.{◌≡◌, ◌≤◌, ◌<◌, ◌⊎◌, ◌↔◌, ℕ, List, Option, Some, None, length, slice_get}
use Rattle.vtr_base.specs.Lists.{Has}
use Rattle.arch_types.specs.declared.block.PbType.{PbType}
use Rattle.arch_types.specs.declared.block.Port.{Port}
use Rattle.arch_types.specs.declared.block.Mode.{Mode}
use Rattle.arch_types.specs.Tree.{modes_of}
use Rattle.arch_types.specs.Address.{Address, at, step_to, instances_of}
use Rattle.arch_types.specs.Numbering.{IsNumbering}
use Rattle.mode_edges.specs.declared.pin.LocalPin.{LocalPin}
use Rattle.mode_edges.specs.declared.pin.LocalEdge.{LocalEdge}
use Rattle.mode_edges.specs.declared.pin.ChildAt.{ChildAt}
use Rattle.mode_edges.specs.Edges.{IsEdge, AreEdges}
use Rattle.pb_expand.specs.declared.number.PinAt.{PinAt}
use Rattle.pb_expand.specs.declared.number.Edge.{Edge}
use Rattle.pb_expand.specs.Graph.{Graph, ports_at, pin_at, pins_of}

-- the instance whose pin it is, for a block at an address and one of its modes
abbrev pub owner_address : Address → ℕ → Option ChildAt → Address
owner_address address mode None = address
owner_address address mode (Some c) = step_to address mode c.child c.instance

-- the pin of number n is that local pin, for a block at an address and one of its modes
pub record StandsAt (g : Graph) (n : ℕ) (address : Address) (mode : ℕ) (pin : LocalPin) : Type 0 where
  pub pb : ℕ
  pub is_pin : slice_get g.pins n ≡ Some (pin_at pb pin.port pin.bit)
  pub is_instance : slice_get g.instances pb ≡ Some (owner_address address mode pin.owner)

-- an edge of the block type: an instance, one of its modes, and an edge of that mode
pub record IsEdgeOf (g : Graph) (e : Edge) : Type 0 where
  pub address : Address
  pub is_owner : slice_get g.instances e.owner.0 ≡ Some address
  pub block : PbType
  pub is_block : at g.root address ≡ Some block
  pub mode : Mode
  pub is_mode : slice_get (modes_of block.kind) e.mode ≡ Some mode
  pub src : LocalPin
  pub dst : LocalPin
  pub edge : IsEdge block mode e.inter src dst
  pub is_src : StandsAt g e.src.0 address e.mode src
  pub is_dst : StandsAt g e.dst.0 address e.mode dst

-- the edge is that local edge, for a block at an address and one of its modes
pub record IsLocal (g : Graph) (e : Edge) (address : Address) (mode : ℕ) (l : LocalEdge) : Type 0 where
  pub inter : e.inter ≡ l.inter
  pub is_mode : e.mode ≡ mode
  pub is_src : StandsAt g e.src.0 address mode l.src
  pub is_dst : StandsAt g e.dst.0 address mode l.dst

-- two edges of one mode of an instance stand as in the mode's list of edges: by interconnect, then
-- as its input names their sources, then as its output names their ends
pub record AreInTurn (g : Graph) (e f : Edge) : Type 0 where
  pub address : Address
  pub is_owner : slice_get g.instances e.owner.0 ≡ Some address
  pub block : PbType
  pub is_block : at g.root address ≡ Some block
  pub mode : Mode
  pub is_mode : slice_get (modes_of block.kind) e.mode ≡ Some mode
  pub local : List LocalEdge
  pub are : AreEdges block mode local
  pub i : ℕ
  pub j : ℕ
  pub less : i < j
  pub first : LocalEdge
  pub second : LocalEdge
  pub at_i : slice_get local i ≡ Some first
  pub at_j : slice_get local j ≡ Some second
  pub is_first : IsLocal g e address e.mode first
  pub is_second : IsLocal g f address e.mode second

-- e stands before f: by owner, then by mode, then as in the mode's list
abbrev pub StandsBefore : Graph → Edge → Edge → Type 0
StandsBefore g e f =
    (e.owner.0 < f.owner.0) ⊎ ((e.owner.0 ≡ f.owner.0) × ((e.mode < f.mode) ⊎ ((e.mode ≡ f.mode) × AreInTurn g e f)))

-- exactly the edges of the block type, each pair once in a mode of an instance, in order
pub record HasEdges (g : Graph) : Type 0 where
  pub each : (e : Edge) → Has g.edges e → IsEdgeOf g e
  pub all : (e : Edge) → IsEdgeOf g e → Has g.edges e
  pub once : (i j : ℕ) (e f : Edge) → slice_get g.edges i ≡ Some e → slice_get g.edges j ≡ Some f →
      e.owner ≡ f.owner → e.mode ≡ f.mode → e.src ≡ f.src → e.dst ≡ f.dst → i ≡ j
  pub ordered : (i j : ℕ) (e f : Edge) → i < j → slice_get g.edges i ≡ Some e → slice_get g.edges j ≡ Some f → StandsBefore g e f

-- there is such a pin: the instance has that port, and the port that bit
pub record IsPin (g : Graph) (pb port bit : ℕ) : Type 0 where
  pub address : Address
  pub is_instance : slice_get g.instances pb ≡ Some address
  pub is : Port
  pub is_port : slice_get (ports_at g.root address) port ≡ Some is
  pub is_bit : bit < is.width

-- each pin of an instance has one number
pub record HasPins (g : Graph) : Type 0 where
  pub exact : (pb port bit : ℕ) → Has g.pins (pin_at pb port bit) ↔ IsPin g pb port bit
  pub once : (i j : ℕ) (p : PinAt) → slice_get g.pins i ≡ Some p → slice_get g.pins j ≡ Some p → i ≡ j

-- all that is known of a graph
pub record IsExpansion (g : Graph) : Type 0 where
  pub instances : g.instances ≡ instances_of g.root
  pub pins : g.pins ≡ pins_of g.root
  pub numbering : IsNumbering g.root g.instances
  pub has_pins : HasPins g
  pub has_edges : HasEdges g
  pub few_instances : length g.instances ≤ 1048576
  pub few_pins : length g.pins ≤ 1048576
  pub few_edges : length g.edges ≤ 4194304

-- a block type has one graph
abbrev pub HasOneGraph : Type 0
HasOneGraph = (g h : Graph) → IsExpansion g → IsExpansion h → g.root ≡ h.root → g.block ≡ h.block → g ≡ h

-- the pin of number n is that local pin of a mode of instance `owner`
abbrev pub IsLocalPin : Graph → ℕ → ℕ → LocalPin → ℕ → Type 0
IsLocalPin g owner mode pin n = (address : Address) × (slice_get g.instances owner ≡ Some address) × StandsAt g n address mode pin
