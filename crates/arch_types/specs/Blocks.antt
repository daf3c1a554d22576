-- What every block type of an architecture keeps (VTR architecture reference, "Complex blocks").
use Rattle.std.specs.Prelude.{◌≡◌, ◌≢◌, ◌≤◌, ◌<◌, ℕ, Bool, true, false, List, [], ◌∷◌, filter, map, IsUtf8}
use Rattle.std.specs.List.{All}
use Rattle.arch_types.specs.declared.block.PbType.{PbType}
use Rattle.arch_types.specs.declared.block.Kind.{Kind, out-Kind}
use Rattle.arch_types.specs.declared.block.Kind.TheOpen.{InPad, OutPad, Lut, Latch, Cell, Modes}
use Rattle.arch_types.specs.declared.block.Mode.{Mode}
use Rattle.arch_types.specs.declared.block.Port.{Port}
use Rattle.arch_types.specs.declared.block.Side.{Side}
use Rattle.arch_types.specs.declared.block.Side.TheVariants.{Input, Output, Clock}
use Rattle.arch_types.specs.declared.block.Inter.{Inter}
use Rattle.arch_types.specs.declared.block.Pattern.{Pattern}
use Rattle.arch_types.specs.declared.block.Meta.{Meta}
use Rattle.arch_types.specs.Tree.{name_of_mode, kids_of, inters_of, metas_of, block_names}
use Rattle.arch_types.specs.Preorder.{preorder}
use Rattle.arch_types.specs.Names.{IsPlainName, IsUnbrokenName, AreDifferent}
use Rattle.arch_types.specs.Counts.{IsCount, IsShort}

-- Ports

pub record IsPort (p : Port) : Type 0 where
  pub name : IsPlainName p.name
  pub utf8 : IsUtf8 p.name
  pub width : IsCount p.width

abbrev pub port_names : List Port → List (List ℕ)
port_names ports = map (λ p. p.name) ports

-- the ports of a pb_type or of a tile
pub record ArePorts (ports : List Port) : Type 0 where
  pub each : All IsPort ports
  pub different : AreDifferent (port_names ports)
  pub few : IsShort ports

abbrev pub is_on : Side → Side → Bool
is_on Input Input = true
is_on Output Output = true
is_on Clock Clock = true
is_on _ _ = false

-- those that lead this way, in their order
abbrev pub ports_on : Side → List Port → List Port
ports_on side ports = filter (λ p. is_on side p.side) ports

abbrev pub HasNone : Side → List Port → Type 0
HasNone side ports = ports_on side ports ≡ []

-- one port leads this way, and this holds of its width
pub record HasOne (side : Side) (Fits : ℕ → Type 0) (ports : List Port) : Type 0 where
  pub port : Port
  pub only : ports_on side ports ≡ port ∷ []
  pub fits : Fits port.width

-- one port of one pin
abbrev pub HasPin : Side → List Port → Type 0
HasPin side ports = HasOne side (λ width. width ≡ 1) ports

-- Leaves

-- `.input`: one output pin
pub record IsInPad (ports : List Port) : Type 0 where
  pub inputs : HasNone Input ports
  pub output : HasPin Output ports
  pub clocks : HasNone Clock ports

-- `.output`: one input pin
pub record IsOutPad (ports : List Port) : Type 0 where
  pub input : HasPin Input ports
  pub outputs : HasNone Output ports
  pub clocks : HasNone Clock ports

-- `.names`: one port of inputs, of which there are at most 8, and one output pin
pub record IsLut (ports : List Port) : Type 0 where
  pub input : HasOne Input (λ width. width ≤ 8) ports
  pub output : HasPin Output ports
  pub clocks : HasNone Clock ports

-- `.latch`: one input pin, one output pin and one clock pin
pub record IsLatch (ports : List Port) : Type 0 where
  pub input : HasPin Input ports
  pub output : HasPin Output ports
  pub clock : HasPin Clock ports

-- Metadata and interconnects

pub record IsMeta (m : Meta) : Type 0 where
  pub name : IsUtf8 m.name
  pub text : IsUtf8 m.text

-- the metadata of one owner
pub record AreMetas (metas : List Meta) : Type 0 where
  pub each : All IsMeta metas
  pub few : IsShort metas

pub record IsPattern (p : Pattern) : Type 0 where
  pub name : IsUtf8 p.name
  pub in_port : IsUtf8 p.in_port
  pub out_port : IsUtf8 p.out_port

pub record ArePatterns (patterns : List Pattern) : Type 0 where
  pub each : All IsPattern patterns
  pub few : IsShort patterns

pub record IsInter (inter : Inter) : Type 0 where
  pub name : IsUnbrokenName inter.name
  pub utf8 : IsUtf8 inter.name
  pub input : IsUtf8 inter.input
  pub output : IsUtf8 inter.output
  pub patterns : ArePatterns inter.patterns
  pub metas : AreMetas inter.metas

-- the interconnects of a mode; two may have one name
pub record AreInters (inters : List Inter) : Type 0 where
  pub each : All IsInter inters
  pub few : IsShort inters

-- Modes

-- a mode of a pb_type of the name `parent`. The pb_types in it are looked at in `IsTree`
pub record IsMode (parent : List ℕ) (m : Mode) : Type 0 where
  pub name : IsPlainName (name_of_mode m)
  pub utf8 : IsUtf8 (name_of_mode m)
  pub different : AreDifferent (block_names (kids_of m))
  pub apart : All (λ kid. kid.name ≢ parent) (kids_of m)
  pub few : IsShort (kids_of m)
  pub inters : AreInters (inters_of m)
  pub metas : AreMetas (metas_of m)

pub record AreModes (parent : List ℕ) (modes : List Mode) : Type 0 where
  pub some : modes ≢ []
  pub each : All (IsMode parent) modes
  pub different : AreDifferent (map name_of_mode modes)
  pub few : IsShort modes

-- pb_types

-- what a pb_type of this name and these ports is; there are so many models
abbrev pub FitsKind : ℕ → List ℕ → List Port → Kind → Type 0
FitsKind models name ports kind = elim (out-Kind kind) [
  | InPad ↦ IsInPad ports
  | OutPad ↦ IsOutPad ports
  | Lut ↦ IsLut ports
  | Latch ↦ IsLatch ports
  | Cell model ↦ model < models
  | Modes modes ↦ AreModes name modes
]

-- a pb_type, but for those in its modes
pub record IsPbType (models : ℕ) (p : PbType) : Type 0 where
  pub name : IsPlainName p.name
  pub utf8 : IsUtf8 p.name
  pub count : IsCount p.count
  pub ports : ArePorts p.ports
  pub kind : FitsKind models p.name p.ports p.kind
  pub metas : AreMetas p.metas

-- a pb_type with all that stand in it, at any depth
abbrev pub IsTree : ℕ → PbType → Type 0
IsTree models p = All (IsPbType models) (preorder p)

-- a block type
pub record IsBlockType (models : ℕ) (block : PbType) : Type 0 where
  pub one : block.count ≡ 1
  pub tree : IsTree models block

pub record AreBlockTypes (models : ℕ) (blocks : List PbType) : Type 0 where
  pub each : All (IsBlockType models) blocks
  pub different : AreDifferent (block_names blocks)
  pub few : IsShort blocks
