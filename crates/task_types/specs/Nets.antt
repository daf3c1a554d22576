-- What tasks know of a netlist: its atoms by number.
use Rattle.std.specs.Prelude.{◌≡◌, ℕ, List, Some, slice_get}
use Rattle.arch_types.specs.declared.block.AtomKind.{AtomKind}
use Rattle.arch_types.specs.declared.block.AtomKind.TheVariants.{InPad, OutPad, Lut, Latch, Cell}
use Rattle.net_types.specs.declared.atom.Atom.{Atom}
use Rattle.net_types.specs.declared.atom.Conn.{Conn}

abbrev pub NetSaid : Type 0
NetSaid = List Atom

-- two output connections of an atom of that kind stand for one pin: of a box where port and bit are the
-- same, and of any other atom, which has one output port, where the bit is
abbrev pub AreOnePin : AtomKind → Conn → Conn → Type 0
AreOnePin (Cell model) a b = (a.port ≡ b.port) × (a.bit ≡ b.bit)
AreOnePin InPad a b = a.bit ≡ b.bit
AreOnePin OutPad a b = a.bit ≡ b.bit
AreOnePin Lut a b = a.bit ≡ b.bit
AreOnePin Latch a b = a.bit ≡ b.bit

-- no atom drives two nets from one pin
pub record HasOneNet (n : NetSaid) : Type 0 where
  pub one : (k i j : ℕ) (atom : Atom) (a b : Conn) → slice_get n k ≡ Some atom →
      slice_get atom.outs i ≡ Some a → slice_get atom.outs j ≡ Some b → AreOnePin atom.kind a b → a.net ≡ b.net
