-- What the connections, the table and the parameters of an atom are, by its kind (BLIF, "Models",
-- "Logic gates", "Generic latches", "Subcircuits").
use Rattle.std.specs.Prelude.{◌≡◌, ◌≤◌, ◌<◌, ◌^◌, ℕ, Bool, true, false, List, [], ◌∷◌, ◌++◌, Some, codes, length, map, slice_get}
use Rattle.std.specs.List.{All}
use Rattle.list_laws.specs.Orders.{Once}
use Rattle.arch_types.specs.declared.block.AtomKind.{AtomKind}
use Rattle.arch_types.specs.declared.block.AtomKind.TheVariants.{InPad, OutPad, Lut, Latch, Cell}
use Rattle.net_types.specs.declared.atom.Atom.{Atom}
use Rattle.net_types.specs.declared.atom.Conn.{Conn}
use Rattle.net_types.specs.Words.{IsWord}

-- the connection is of this bit of this port
pub record IsAt (port : List ℕ) (bit : ℕ) (conn : Conn) : Type 0 where
  pub port_is : conn.port ≡ port
  pub bit_is : conn.bit ≡ bit

-- one connection, of bit 0 of this port
pub record IsPin (port : List ℕ) (conns : List Conn) : Type 0 where
  pub conn : Conn
  pub only : conns ≡ conn ∷ []
  pub at : IsAt port 0 conn

-- connections of this port with bits from 0
abbrev pub AreBits : List ℕ → List Conn → Type 0
AreBits port conns = (bit : ℕ) (conn : Conn) → slice_get conns bit ≡ Some conn → IsAt port bit conn

-- the data pin, and then the control pin
pub record AreLatchPins (conns : List Conn) : Type 0 where
  pub data_pin : Conn
  pub control : Conn
  pub only : conns ≡ data_pin ∷ control ∷ []
  pub data_at : IsAt (codes "in") 0 data_pin
  pub control_at : IsAt (codes "clk") 0 control

-- there is no table, and there are no parameters
pub record IsPlain (atom : Atom) : Type 0 where
  pub table : atom.table ≡ []
  pub params : atom.params ≡ []

pub record IsInPad (atom : Atom) : Type 0 where
  pub ins : atom.ins ≡ []
  pub outs : IsPin (codes "out") atom.outs
  pub plain : IsPlain atom

pub record IsOutPad (atom : Atom) : Type 0 where
  pub ins : IsPin (codes "in") atom.ins
  pub outs : atom.outs ≡ []
  pub plain : IsPlain atom

-- at most 8 inputs, and a value for each index of them
pub record IsLut (atom : Atom) : Type 0 where
  pub ins : AreBits (codes "in") atom.ins
  pub few : length atom.ins ≤ 8
  pub outs : IsPin (codes "out") atom.outs
  pub table : length atom.table ≡ 2 ^ length atom.ins
  pub params : atom.params ≡ []

pub record IsLatch (atom : Atom) : Type 0 where
  pub ins : AreLatchPins atom.ins
  pub outs : IsPin (codes "out") atom.outs
  pub plain : IsPlain atom

-- a bit of a port
abbrev pub formal_of : Conn → List ℕ × ℕ
formal_of conn = (conn.port, conn.bit)

-- a parameter's name and its value are words
abbrev pub IsParam : List ℕ × List ℕ → Type 0
IsParam param = IsWord param.0 × IsWord param.1

-- each bit of a port is connected once at most, and each parameter has one value
pub record IsBox (atom : Atom) : Type 0 where
  pub once : Once (map formal_of (atom.ins ++ atom.outs))
  pub bits : All (λ c. c.bit < 2 ^ 32) (atom.ins ++ atom.outs)
  pub table : atom.table ≡ []
  pub params : All IsParam atom.params
  pub names : Once (map (λ p. p.0) atom.params)

abbrev pub FitsKind : AtomKind → Atom → Type 0
FitsKind InPad atom = IsInPad atom
FitsKind OutPad atom = IsOutPad atom
FitsKind Lut atom = IsLut atom
FitsKind Latch atom = IsLatch atom
FitsKind (Cell model) atom = IsBox atom

-- the atom is as its kind asks for
abbrev pub IsAtom : Atom → Type 0
IsAtom atom = FitsKind atom.kind atom

abbrev pub is_box : AtomKind → Bool
is_box (Cell model) = true
is_box _ = false
