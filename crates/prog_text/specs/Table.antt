-- Tables of names: what a table holds at a text, the tables of a pb_type, and those of a graph.
use Rattle.std.specs.Prelude.{◌≡◌, ◌<◌, ◌≤◌, ◌⊎◌, ℕ, List, [], Option, Some, IsSome, Vec, vec_items, length, slice_get}
use Rattle.std.specs.Str.{bytes_eq}
use Rattle.std.specs.Option.{option_map_or}
use Rattle.std.specs.HashMap.{HashMap, get_by}
use Rattle.arch_types.specs.declared.block.PbType.{PbType}
use Rattle.arch_types.specs.declared.block.Port.{Port}
use Rattle.arch_types.specs.declared.block.Mode.{Mode}
use Rattle.arch_types.specs.Tree.{modes_of, kids_of, name_of_mode}
use Rattle.pb_expand.specs.declared.number.Step.{Step}
use Rattle.pb_expand.specs.Graph.{Graph, LeadsTo, block_at}
use Rattle.prog_text.specs.declared.table.NameTable.{NameTable}
use Rattle.prog_text.specs.declared.block.BlockNames.{BlockNames}
use Rattle.prog_text.specs.declared.graph.GraphNames.{GraphNames}
use Rattle.prog_text.specs.Plain.{HasPlainNames}

-- the number at a name
abbrev pub numbered : {A S : Type 0} → HashMap (Vec ℕ A) ℕ S → List ℕ → Option ℕ
numbered numbers name = get_by (λ key. bytes_eq name (vec_items key)) numbers

-- the table holds the names of the numbers below `count`, and nothing else; where a name is given
-- more than once it holds one of its numbers
pub record IsTableOf {A S : Type 0} (name : ℕ → List ℕ) (count : ℕ) (numbers : HashMap (Vec ℕ A) ℕ S) : Type 0 where
  pub sound : (text : List ℕ) (n : ℕ) → numbered numbers text ≡ Some n → (n < count) × (text ≡ name n)
  pub complete : (n : ℕ) → n < count → IsSome (numbered numbers (name n))

-- the name of the element at a place
abbrev pub name_in : {X : Type 0} → (X → List ℕ) → List X → ℕ → List ℕ
name_in name xs k = option_map_or name (slice_get xs k) []

abbrev pub kid_name : PbType → List ℕ
kid_name block = block.name

abbrev pub port_name : Port → List ℕ
port_name port = port.name

-- the table has the children of a mode
abbrev pub IsKidTable : Mode → NameTable → Type 0
IsKidTable mode table = IsTableOf (name_in kid_name (kids_of mode)) (length (kids_of mode)) table.numbers

-- of each of the first modes there is the table of its children
pub record AreKidTables (modes : List Mode) (count : ℕ) (tables : List NameTable) : Type 0 where
  pub all : length tables ≡ count
  pub each : (k : ℕ) (mode : Mode) (table : NameTable) → slice_get modes k ≡ Some mode → slice_get tables k ≡ Some table → IsKidTable mode table

-- the tables have the modes of a pb_type, their children and the ports
pub record AreBlockNames (block : PbType) (names : BlockNames) : Type 0 where
  pub modes : IsTableOf (name_in name_of_mode (modes_of block.kind)) (length (modes_of block.kind)) names.modes.numbers
  pub kids : AreKidTables (modes_of block.kind) (length (modes_of block.kind)) names.kids.items
  pub ports : IsTableOf (name_in port_name block.ports) (length block.ports) names.ports.numbers

-- the tables are those of the instance of number n
pub record HasNames (g : Graph) (n : ℕ) (names : BlockNames) : Type 0 where
  pub block : PbType
  pub is_block : block_at g n ≡ Some block
  pub are : AreBlockNames block names

-- they stand at that place
pub record HasNamesAt (g : Graph) (t : GraphNames) (n place : ℕ) : Type 0 where
  pub names : BlockNames
  pub there : slice_get t.blocks.items place ≡ Some names
  pub has : HasNames g n names

-- the instance is the root, or hangs on an earlier one
abbrev pub IsHung : Graph → ℕ → Type 0
IsHung g n = (n ≡ 0) ⊎ ((step : Step) × LeadsTo g.instances step n)

-- each of the first instances has its tables
pub record AreNamesUpTo (g : Graph) (count : ℕ) (t : GraphNames) : Type 0 where
  pub all : length t.places.items ≡ count
  pub few : length t.blocks.items ≤ count
  pub each : (n place : ℕ) → slice_get t.places.items n ≡ Some place → HasNamesAt g t n place
  pub hung : (n : ℕ) → n < count → IsHung g n

-- the names are those of the graph, and are plain
pub record AreNamesOf (g : Graph) (t : GraphNames) : Type 0 where
  pub plain : HasPlainNames g.root
  pub tables : AreNamesUpTo g (length g.instances) t
