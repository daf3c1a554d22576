-- Each order of the lines of a netlist, and of the pins of a box, keeps this.
use Rattle.std.specs.Prelude.{List, map}
use Rattle.list_laws.specs.Orders.{Once}
use Rattle.net_types.specs.declared.atom.Atom.{Atom}
use Rattle.net_types.specs.declared.atom.Conn.{Conn}
use Rattle.net_types.specs.declared.parts.NetlistParts.{NetlistParts}
use Rattle.net_types.specs.Atoms.{formal_of, IsBox}
use Rattle.net_types.specs.WellFormed.{IsNetlist}
use Rattle.blif_order.specs.Orders.{IsLineOrder, IsPinOrder}
use Rattle.order_laws.specs.Kept.{KeepsLines}

abbrev pub LinesKeep : Type 0
LinesKeep = (n : NetlistParts) (lines : List Atom) → IsNetlist n → IsLineOrder n lines → KeepsLines n lines

abbrev pub PinsKeep : Type 0
PinsKeep = (atom : Atom) (pins : List Conn) → IsBox atom → IsPinOrder atom pins → Once (map formal_of pins)
