-- Which leaves can hold an atom (VTR architecture reference, "Primitives": the `blif_model` of a leaf
-- and its ports).
use Rattle.std.specs.Prelude.{◌≡◌, ◌≤◌, ◌<◌, ℕ, List, length}
use Rattle.std.specs.List.{All}
use Rattle.vtr_base.specs.Lists.{Has}
use Rattle.list_laws.specs.Orders.{Once, HaveSame}
use Rattle.arch_types.specs.declared.block.AtomKind.{AtomKind}
use Rattle.arch_types.specs.declared.block.AtomKind.TheVariants.{Lut, Cell}
use Rattle.arch_types.specs.declared.block.Port.{Port}
use Rattle.arch_types.specs.declared.block.Side.TheVariants.{Input, Output}
use Rattle.net_types.specs.declared.atom.Atom.{Atom}
use Rattle.net_types.specs.declared.atom.Conn.{Conn}
use Rattle.net_types.specs.Order.{nets_of}

-- so many of the numbers are different
pub record HasDifferent (numbers : List ℕ) (count : ℕ) : Type 0 where
  pub each : List ℕ
  pub once : Once each
  pub same : HaveSame each numbers
  pub count_is : length each ≡ count

-- inputs, of which there are at least so many
pub record IsWide (count : ℕ) (port : Port) : Type 0 where
  pub side : port.side ≡ Input
  pub wide : count ≤ port.width

-- a LUT with at least as many inputs as there are different nets
pub record FitsLut (conns : List Conn) (ports : List Port) : Type 0 where
  pub count : ℕ
  pub different : HasDifferent (nets_of conns) count
  pub port : Port
  pub there : Has ports port
  pub wide : IsWide count port

-- the port has this name and this bit
pub record HasBit (conn : Conn) (port : Port) : Type 0 where
  pub name : port.name ≡ conn.port
  pub bit : conn.bit < port.width

-- a clock counts as an input
abbrev pub IsInputAt : Conn → Port → Type 0
IsInputAt conn port = (port.side ≡ Output → ⊥) × HasBit conn port

abbrev pub IsOutputAt : Conn → Port → Type 0
IsOutputAt conn port = (port.side ≡ Output) × HasBit conn port

pub record HasInput (ports : List Port) (conn : Conn) : Type 0 where
  pub port : Port
  pub there : Has ports port
  pub at : IsInputAt conn port

pub record HasOutput (ports : List Port) (conn : Conn) : Type 0 where
  pub port : Port
  pub there : Has ports port
  pub at : IsOutputAt conn port

-- a box with each connected bit on the same side
pub record FitsBox (atom : Atom) (ports : List Port) : Type 0 where
  pub ins : All (HasInput ports) atom.ins
  pub outs : All (HasOutput ports) atom.outs

-- the ports of a leaf of this kind fit the atom's connections
abbrev pub FitsPorts : AtomKind → Atom → List Port → Type 0
FitsPorts Lut atom ports = FitsLut atom.ins ports
FitsPorts (Cell model) atom ports = FitsBox atom ports
FitsPorts _ atom ports = Unit {0}

-- a leaf of this kind with these ports can hold the atom
abbrev pub Fits : AtomKind → Atom → List Port → Type 0
Fits kind atom ports = (kind ≡ atom.kind) × FitsPorts kind atom ports
