-- Why a block type isn't expanded.
use Rattle.std.specs.Prelude.{◌≡◌, ◌<◌, ◌⊎◌, ℕ, List, [], Some, length, slice_get}
use Rattle.vtr_base.specs.Lists.{Has}
use Rattle.arch_types.specs.declared.block.PbType.{PbType}
use Rattle.arch_types.specs.Address.{instances_of}
use Rattle.mode_edges.specs.declared.faults.EdgeError.{EdgeError}
use Rattle.mode_edges.specs.declared.faults.EdgeError.TheVariants as edge
use Rattle.mode_edges.specs.Faults.{IsSoundMode, IsFirstFault}
use Rattle.pb_expand.specs.declared.error.ExpandError.{ExpandError}
use Rattle.pb_expand.specs.declared.error.ExpandError.TheVariants.{NoSuchPin, Width, WideMux, TooMany, OutOfMemory}
use Rattle.pb_expand.specs.declared.error.SizeError.{SizeError}
use Rattle.pb_expand.specs.declared.error.SizeError.TheVariants as size
use Rattle.pb_expand.specs.declared.number.Edge.{Edge}
use Rattle.pb_expand.specs.Graph.{Graph, pins_of}
use Rattle.pb_expand.specs.Types.{ModeOf, modes_in_tree}
use Rattle.pb_expand.specs.Expansion.{IsEdgeOf}

-- each interconnect of these modes names pins rightly
abbrev pub AreSound : List ModeOf → Type 0
AreSound modes = (m : ModeOf) → Has modes m → IsSoundMode m.block m.mode

-- an interconnect fails by this rule, and all that come before it are sound
pub record IsFirstIn (modes : List ModeOf) (e : EdgeError) : Type 0 where
  pub place : ℕ
  pub at : ModeOf
  pub is_at : slice_get modes place ≡ Some at
  pub fault : IsFirstFault at.block at.mode e
  pub before : (k : ℕ) (m : ModeOf) → k < place → slice_get modes k ≡ Some m → IsSoundMode m.block m.mode

-- an error other than want of memory tells the first interconnect of these modes that fails
abbrev pub TellsFirstIn : List ModeOf → EdgeError → Type 0
TellsFirstIn modes (edge.NoSuchPin inter) = IsFirstIn modes (edge.NoSuchPin inter)
TellsFirstIn modes (edge.Width inter) = IsFirstIn modes (edge.Width inter)
TellsFirstIn modes (edge.WideMux inter) = IsFirstIn modes (edge.WideMux inter)
TellsFirstIn modes edge.OutOfMemory = Unit {0}

-- the instances and the pins of a block type, without its edges
abbrev pub without_edges : PbType → Graph
without_edges root = record { block = 0; root = root; instances = instances_of root; pins = pins_of root; edges = [] }

-- a block type has more edges than `most`: so many of them can be listed, each once
pub record TreeHasMoreEdges (root : PbType) (most : ℕ) : Type 0 where
  pub edges : List Edge
  pub each : (e : Edge) → Has edges e → IsEdgeOf (without_edges root) e
  pub once : (i j : ℕ) (e : Edge) → slice_get edges i ≡ Some e → slice_get edges j ≡ Some e → i ≡ j
  pub more : most < length edges

-- a block type has more than 2^20 instances or 2^20 pins, or more than 2^22 edges
abbrev pub IsTooLarge : PbType → Type 0
IsTooLarge root = (1048576 < length (instances_of root)) ⊎ ((1048576 < length (pins_of root)) ⊎ TreeHasMoreEdges root 4194304)

-- when each error comes, and what it names; want of memory may come at any time
abbrev pub IsRefusal : PbType → ExpandError → Type 0
IsRefusal root (NoSuchPin inter) = IsFirstIn (modes_in_tree root) (edge.NoSuchPin inter)
IsRefusal root (Width inter) = IsFirstIn (modes_in_tree root) (edge.Width inter)
IsRefusal root (WideMux inter) = IsFirstIn (modes_in_tree root) (edge.WideMux inter)
IsRefusal root TooMany = AreSound (modes_in_tree root) × IsTooLarge root
IsRefusal root OutOfMemory = Unit {0}

-- what is told of a fault of a mode
abbrev pub error_of_edge : EdgeError → ExpandError
error_of_edge (edge.NoSuchPin inter) = NoSuchPin inter
error_of_edge (edge.Width inter) = Width inter
error_of_edge (edge.WideMux inter) = WideMux inter
error_of_edge edge.OutOfMemory = OutOfMemory

abbrev pub error_of_size : SizeError → ExpandError
error_of_size size.TooMany = TooMany
error_of_size size.OutOfMemory = OutOfMemory
