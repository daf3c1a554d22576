-- Orders of lines, and of the pins in the line of a box, that number nets by first mention.
use Rattle.std.specs.Prelude.{ℕ, List, length}
use Rattle.net_types.specs.declared.atom.Atom.{Atom}
use Rattle.net_types.specs.declared.atom.Conn.{Conn}
use Rattle.net_types.specs.declared.parts.NetlistParts.{NetlistParts}
use Rattle.net_types.specs.Merges.{IsMerge, Mention}
use Rattle.net_types.specs.Order.{nets_of, of_group, LinesNumber}

-- all atoms, inputs, outputs and the others each in their order, so that their lines number the nets
pub record IsLineOrder (n : NetlistParts) (lines : List Atom) : Type 0 where
  pub pads : List Atom
  pub are_pads : IsMerge (of_group 0 n.atoms) (of_group 1 n.atoms) pads
  pub are_lines : IsMerge pads (of_group 2 n.atoms) lines
  pub number : LinesNumber 0 lines (length n.nets)

-- all connections, inputs and outputs each in their order, so that they number nets wherever some
-- such order does
pub record IsPinOrder (atom : Atom) (pins : List Conn) : Type 0 where
  pub merged : IsMerge atom.ins atom.outs pins
  pub number : (known next : ℕ) (nets : List ℕ) →
      IsMerge (nets_of atom.ins) (nets_of atom.outs) nets → Mention known nets next →
      Mention known (nets_of pins) next
