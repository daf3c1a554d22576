-- What the parts of a graph are while it is made.
use Rattle.std.specs.Prelude.{◌≡◌, ◌≤◌, ◌<◌, ◌+◌, ◌^◌, ◌⊎◌, ℕ, List, [], ◌∷◌, ◌++◌, Option, Some, None, Vec, length, slice_get}
use Rattle.std.specs.declared.alloc.Global.{Global}
use Rattle.vtr_base.specs.Lists.{Has}
use Rattle.arch_types.specs.declared.block.PbType.{PbType}
use Rattle.arch_types.specs.declared.block.Mode.{Mode}
use Rattle.arch_types.specs.Tree.{modes_of}
use Rattle.arch_types.specs.Address.{Address, at}
use Rattle.mode_edges.specs.declared.pin.LocalPin.{LocalPin}
use Rattle.mode_edges.specs.declared.pin.LocalEdge.{LocalEdge}
use Rattle.mode_edges.specs.declared.pin.ChildAt.{ChildAt}
use Rattle.mode_edges.specs.Edges.{IsEdge, AreEdges}
use Rattle.mode_edges.specs.Faults.{IsSoundMode}
use Rattle.pb_expand.specs.declared.number.Step.{Step}
use Rattle.pb_expand.specs.declared.number.PinAt.{PinAt}
use Rattle.pb_expand.specs.declared.number.Edge.{Edge}
use Rattle.pb_expand.specs.declared.number.PbIx.{PbIx}
use Rattle.pb_expand.specs.declared.edges.ModeEdges.{ModeEdges}
use Rattle.pb_expand.specs.Graph.{pin_ix, pb_ix, pin_at, pins_of_ports, step_from, first_address}
use Rattle.pb_expand.specs.Expansion.{owner_address}
use Rattle.pb_expand.specs.Rows.{addresses, IsTree}

-- each pb_type has fewer than 2^32 modes and ports
pub record AreShort (blocks : List PbType) : Type 0 where
  pub each : (n : ℕ) (block : PbType) → slice_get blocks n ≡ Some block → (length (modes_of block.kind) < 2 ^ 32) × (length block.ports < 2 ^ 32)

-- the pb_types of the instances, by number
pub record AreBlocks (root : PbType) (instances : List Address) (blocks : List PbType) : Type 0 where
  pub each : (n : ℕ) (a : Address) → slice_get instances n ≡ Some a → (block : PbType) × (at root a ≡ Some block) × (slice_get blocks n ≡ Some block)
  pub all : length blocks ≡ length instances

-- the pins of these instances, of which the first is numbered n
abbrev pub pins_over : ℕ → List PbType → List PinAt
pins_over n [] = []
pins_over n (block ∷ blocks) = pins_of_ports n 0 block.ports ++ pins_over (n + 1) blocks

-- for each instance the one at the same address with the first instance of each child
pub record AreFirsts (instances : List Address) (firsts : List PbIx) : Type 0 where
  pub all : length firsts ≡ length instances
  pub each : (n : ℕ) (a : Address) (f : PbIx) → slice_get instances n ≡ Some a → slice_get firsts n ≡ Some f → slice_get instances f.0 ≡ Some (first_address a)

-- for each instance one of the same pb_type, which stands for itself
pub record StandFor (blocks : List PbType) (firsts : List PbIx) : Type 0 where
  pub itself : (n : ℕ) (f : PbIx) → slice_get firsts n ≡ Some f → slice_get firsts f.0 ≡ Some f
  pub same : (n : ℕ) (f : PbIx) → slice_get firsts n ≡ Some f → slice_get blocks f.0 ≡ slice_get blocks n

-- no element has two places
abbrev pub AreOnce : {X : Type 0} → List X → Type 0
AreOnce {X} xs = (i j : ℕ) (x : X) → slice_get xs i ≡ Some x → slice_get xs j ≡ Some x → i ≡ j

-- each instance and each pin has one number
pub record AreNumbered (rows : List Step) (pins : List PinAt) : Type 0 where
  pub tree : IsTree rows
  pub few_rows : length rows ≤ 1048575
  pub few_pins : length pins ≤ 1048576
  pub once_instances : AreOnce (addresses rows)
  pub once_pins : AreOnce pins

-- the pin of number n is that local pin, for a block at an address and one of its modes
pub record Stands (instances : List Address) (pins : List PinAt) (n : ℕ) (address : Address) (mode : ℕ) (pin : LocalPin) : Type 0 where
  pub pb : ℕ
  pub is_pin : slice_get pins n ≡ Some (pin_at pb pin.port pin.bit)
  pub is_instance : slice_get instances pb ≡ Some (owner_address address mode pin.owner)

abbrev pub edge_at : ℕ → ℕ → ℕ → ℕ → ℕ → Edge
edge_at src dst owner mode inter = record { src = pin_ix src; dst = pin_ix dst; owner = pb_ix owner; mode = mode; inter = inter }

-- the edge is that local edge, in a mode of an instance
pub record IsPlaced (instances : List Address) (pins : List PinAt) (owner mode : ℕ) (l : LocalEdge) (e : Edge) : Type 0 where
  pub src : ℕ
  pub dst : ℕ
  pub is : e ≡ edge_at src dst owner mode l.inter
  pub at_src : (a : Address) → slice_get instances owner ≡ Some a → Stands instances pins src a mode l.src
  pub at_dst : (a : Address) → slice_get instances owner ≡ Some a → Stands instances pins dst a mode l.dst

-- the edges of a mode of an instance were added, one by one
pub record AddsPlaced (instances : List Address) (pins : List PinAt) (owner mode : ℕ) (local : List LocalEdge) (old new : List Edge) : Type 0 where
  pub more : List Edge
  pub is : new ≡ old ++ more
  pub all : length more ≡ length local
  pub placed : (k : ℕ) (l : LocalEdge) (e : Edge) → slice_get local k ≡ Some l → slice_get more k ≡ Some e → IsPlaced instances pins owner mode l e

-- an edge of the graph that is made
pub record IsMade (blocks : List PbType) (instances : List Address) (pins : List PinAt) (e : Edge) : Type 0 where
  pub address : Address
  pub is_owner : slice_get instances e.owner.0 ≡ Some address
  pub block : PbType
  pub is_block : slice_get blocks e.owner.0 ≡ Some block
  pub mode : Mode
  pub is_mode : slice_get (modes_of block.kind) e.mode ≡ Some mode
  pub src : LocalPin
  pub dst : LocalPin
  pub edge : IsEdge block mode e.inter src dst
  pub is_src : Stands instances pins e.src.0 address e.mode src
  pub is_dst : Stands instances pins e.dst.0 address e.mode dst

-- the edge is of an instance before number n, or of n and a mode before that one
abbrev pub IsBefore : ℕ → ℕ → Edge → Type 0
IsBefore n mode e = (e.owner.0 < n) ⊎ ((e.owner.0 ≡ n) × (e.mode < mode))

-- two edges of one mode of an instance stand as in the mode's list of edges
pub record StandInTurn (blocks : List PbType) (instances : List Address) (pins : List PinAt) (e f : Edge) : Type 0 where
  pub block : PbType
  pub is_block : slice_get blocks e.owner.0 ≡ Some block
  pub mode : Mode
  pub is_mode : slice_get (modes_of block.kind) e.mode ≡ Some mode
  pub local : List LocalEdge
  pub are : AreEdges block mode local
  pub i : ℕ
  pub j : ℕ
  pub less : i < j
  pub first : LocalEdge
  pub second : LocalEdge
  pub at_i : slice_get local i ≡ Some first
  pub at_j : slice_get local j ≡ Some second
  pub is_first : IsPlaced instances pins e.owner.0 e.mode first e
  pub is_second : IsPlaced instances pins e.owner.0 e.mode second f

abbrev pub Precedes : List PbType → List Address → List PinAt → Edge → Edge → Type 0
Precedes blocks instances pins e f =
    (e.owner.0 < f.owner.0) ⊎ ((e.owner.0 ≡ f.owner.0) × ((e.mode < f.mode) ⊎ ((e.mode ≡ f.mode) × StandInTurn blocks instances pins e f)))

-- exactly the edges before a mode of an instance, in their order
pub record AreBefore (blocks : List PbType) (instances : List Address) (pins : List PinAt) (n mode : ℕ) (edges : List Edge) : Type 0 where
  pub each : (e : Edge) → Has edges e → IsMade blocks instances pins e × IsBefore n mode e
  pub all : (e : Edge) → IsMade blocks instances pins e → IsBefore n mode e → Has edges e
  pub once : (i j : ℕ) (e f : Edge) → slice_get edges i ≡ Some e → slice_get edges j ≡ Some f →
      e.owner ≡ f.owner → e.mode ≡ f.mode → e.src ≡ f.src → e.dst ≡ f.dst → i ≡ j
  pub ordered : (i j : ℕ) (e f : Edge) → i < j → slice_get edges i ≡ Some e → slice_get edges j ≡ Some f → Precedes blocks instances pins e f

-- the instance of number pb has a pin of a mode of instance `owner`, as a row says
abbrev pub IsOwner : List Step → ℕ → ℕ → Option ChildAt → ℕ → Type 0
IsOwner rows owner mode None pb = pb ≡ owner
IsOwner rows owner mode (Some c) pb = (k : ℕ) × (slice_get rows k ≡ Some (step_from owner mode c.child c.instance)) × (pb ≡ k + 1)

-- a pin of a mode of an instance is among the instances and the pins
pub record HasPlace (rows : List Step) (pins : List PinAt) (owner mode : ℕ) (pin : LocalPin) : Type 0 where
  pub has_owner : (pb : ℕ) × IsOwner rows owner mode pin.owner pb
  pub has_pin : (pb : ℕ) → IsOwner rows owner mode pin.owner pb → (n : ℕ) × (slice_get pins n ≡ Some (pin_at pb pin.port pin.bit))

-- the pins of these local edges are there
pub record HavePlaces (rows : List Step) (pins : List PinAt) (owner mode : ℕ) (local : List LocalEdge) : Type 0 where
  pub src : (k : ℕ) (l : LocalEdge) → slice_get local k ≡ Some l → HasPlace rows pins owner mode l.src
  pub dst : (k : ℕ) (l : LocalEdge) → slice_get local k ≡ Some l → HasPlace rows pins owner mode l.dst

-- the modes of a pb_type before number `end` that have edges, in turn, each with its edges
pub record AreModeEdges (block : PbType) (end : ℕ) (kept : List ModeEdges) : Type 0 where
  pub each : (k : ℕ) (one : ModeEdges) → slice_get kept k ≡ Some one → (mode : Mode) × (slice_get (modes_of block.kind) one.mode ≡ Some mode) × AreEdges block mode one.edges.items
  pub before : (k : ℕ) (one : ModeEdges) → slice_get kept k ≡ Some one → one.mode < end
  pub some : (k : ℕ) (one : ModeEdges) → slice_get kept k ≡ Some one → 0 < length one.edges.items
  pub ascend : (i j : ℕ) (a b : ModeEdges) → i < j → slice_get kept i ≡ Some a → slice_get kept j ≡ Some b → a.mode < b.mode
  -- a mode that isn't kept has no edges
  pub rest : (m : ℕ) (mode : Mode) → m < end → slice_get (modes_of block.kind) m ≡ Some mode → ((k : ℕ) (one : ModeEdges) → slice_get kept k ≡ Some one → one.mode ≡ m → ⊥) → AreEdges block mode []

-- the edges of all modes of the instance of number n
abbrev pub AreModeEdgesOf : List PbType → ℕ → List ModeEdges → Type 0
AreModeEdgesOf blocks n kept = (block : PbType) → slice_get blocks n ≡ Some block → AreModeEdges block (length (modes_of block.kind)) kept

-- the edges of the modes of each instance that stands for itself
abbrev pub HaveModeEdges : {A : Type 0} → List PbType → List PbIx → List (Vec ModeEdges A) → Type 0
HaveModeEdges {A} blocks firsts lists = (n : ℕ) (made : Vec ModeEdges A) → slice_get firsts n ≡ Some (pb_ix n) → slice_get lists n ≡ Some made → AreModeEdgesOf blocks n made.items

-- one more mode's edges are kept, where there are some
abbrev pub Keeps : List ModeEdges → ℕ → Vec LocalEdge Global → List ModeEdges → Type 0
Keeps old mode edges new = ((edges.items ≡ []) × (new ≡ old)) ⊎ ((0 < length edges.items) × (new ≡ old ++ record { mode = mode; edges = edges } ∷ []))

-- what is known of the instances and the pins before the edges are made
pub record AreParts (blocks : List PbType) (rows : List Step) (pins : List PinAt) : Type 0 where
  pub numbered : AreNumbered rows pins
  pub short : AreShort blocks
  pub all : length blocks ≡ 1 + length rows
  pub all_addresses : length blocks ≡ length (addresses rows)
  pub sound : (n m : ℕ) (block : PbType) (mode : Mode) → slice_get blocks n ≡ Some block → slice_get (modes_of block.kind) m ≡ Some mode → IsSoundMode block mode
  pub places : (n m : ℕ) (block : PbType) (mode : Mode) (local : List LocalEdge) → slice_get blocks n ≡ Some block → slice_get (modes_of block.kind) m ≡ Some mode →
      AreEdges block mode local → HavePlaces rows pins n m local

-- more edges than `most` can be listed, each once
pub record AreMore (blocks : List PbType) (instances : List Address) (pins : List PinAt) (most : ℕ) : Type 0 where
  pub edges : List Edge
  pub each : (e : Edge) → Has edges e → IsMade blocks instances pins e
  pub once : (i j : ℕ) (e : Edge) → slice_get edges i ≡ Some e → slice_get edges j ≡ Some e → i ≡ j
  pub more : most < length edges
