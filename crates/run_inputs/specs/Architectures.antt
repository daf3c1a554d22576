-- What an architecture's file gives, and why a run stops at it.
use Rattle.std.specs.Prelude.{◌≡◌, ◌<◌, ◌⊎◌, ◌++◌, ℕ, List, Some, map, length, slice_get, codes}
use Rattle.vtr_base.specs.Lists.{IsFirstPlace}
use Rattle.arch_types.specs.declared.arch.Arch.{Arch}
use Rattle.arch_types.specs.declared.block.PbType.{PbType}
use Rattle.arch_files.specs.Files.{SpellsArch, IsRefused}
use Rattle.arch_files.specs.Telling as arch
use Rattle.pb_expand.specs.Graph.{Graph}
use Rattle.pb_expand.specs.Expansion.{IsExpansion}
use Rattle.pb_expand.specs.Refusals.{AreSound, IsTooLarge, IsRefusal}
use Rattle.pb_expand.specs.Telling as expand
use Rattle.pb_expand.specs.Types.{modes_in_tree}
use Rattle.run_base.specs.declared.stop.Stop.{Stop}
use Rattle.run_base.specs.Worlds.{World, Fetched}
use Rattle.run_base.specs.Stops.{StopsAtFile, StopsAfter, TellsOf}

-- the file spells the architecture
pub record ReadsArch (w : World) (file : List ℕ) (a : Arch) : Type 0 where
  pub bytes : List ℕ
  pub fetched : Fetched w file bytes
  pub spells : SpellsArch bytes a

abbrev pub names_of : List PbType → List (List ℕ)
names_of blocks = map (λ block. block.name) blocks

-- a block type whose interconnects name pins rightly, and which isn't too large
pub record IsExpandable (root : PbType) : Type 0 where
  pub sound : AreSound (modes_in_tree root)
  pub fits : IsTooLarge root → ⊥

-- the graph of the block type of that number
pub record IsGraphOf (a : Arch) (number : ℕ) (g : Graph) : Type 0 where
  pub block : g.block ≡ number
  pub root : slice_get a.blocks number ≡ Some g.root
  pub expandable : IsExpandable g.root
  pub expansion : IsExpansion g

-- the graphs of all block types, in their order
pub record AreGraphs (a : Arch) (graphs : List Graph) : Type 0 where
  pub all : length graphs ≡ length a.blocks
  pub each : (number : ℕ) (g : Graph) → slice_get graphs number ≡ Some g → IsGraphOf a number g

-- the file spells the architecture, and these are the graphs of its block types
pub record Expands (w : World) (file : List ℕ) (a : Arch) (graphs : List Graph) : Type 0 where
  pub reads : ReadsArch w file a
  pub are : AreGraphs a graphs

-- the file spells an architecture all of whose block types have graphs
abbrev pub IsExpanded : World → List ℕ → Type 0
IsExpanded w file = (a : Arch) × (graphs : List Graph) × Expands w file a graphs

-- the word names the block type of that number
abbrev pub NamesBlock : Arch → List ℕ → ℕ → Type 0
NamesBlock a name number = IsFirstPlace (names_of a.blocks) name number

-- the word names no block type
abbrev pub LacksBlock : Arch → List ℕ → Type 0
LacksBlock a name = (number : ℕ) → slice_get (names_of a.blocks) number ≡ Some name → ⊥

-- what is told of bytes that spell no architecture: the first rule that they break
abbrev pub IsBadArch : List ℕ → List ℕ → Type 0
IsBadArch bytes why = TellsOf arch.is_want_of_memory arch.arch_text (IsRefused bytes) why

-- what is told of a block type without a graph
abbrev pub TellsUnexpanded : PbType → List ℕ → Type 0
TellsUnexpanded root why = TellsOf expand.is_want_of_memory expand.expand_text (IsRefusal root) why

-- what is told of the first block type without a graph
pub record TellsFirstUnexpanded (a : Arch) (why : List ℕ) : Type 0 where
  pub number : ℕ
  pub root : PbType
  pub there : slice_get a.blocks number ≡ Some root
  pub tells : TellsUnexpanded root why
  pub before : (k : ℕ) (earlier : PbType) → k < number → slice_get a.blocks k ≡ Some earlier → IsExpandable earlier

-- the file spells an architecture, and this is told of its first block type without a graph
pub record IsBadBlock (w : World) (file why : List ℕ) : Type 0 where
  pub a : Arch
  pub reads : ReadsArch w file a
  pub first : TellsFirstUnexpanded a why

-- a run stops at its architecture
abbrev pub StopsAtArch : World → List ℕ → Stop → Type 0
StopsAtArch w file s =
    StopsAtFile w (Unit {0}) file IsBadArch s ⊎ StopsAfter (Unit {0}) file (IsBadBlock w file) s

-- what is told of a word that names no block type
abbrev pub TellsNoBlock : List ℕ → List ℕ → Type 0
TellsNoBlock name why = why ≡ codes "5 NoBlockType " ++ name

-- a stop at bytes that spell no architecture
abbrev pub IsRefusedArch : List ℕ → List ℕ → Stop → Type 0
IsRefusedArch file bytes s = StopsAfter (Unit {0}) file (IsBadArch bytes) s
