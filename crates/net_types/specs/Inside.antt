-- The tables that a netlist is held in.
use Rattle.std.specs.Prelude.{◌≡◌, ℕ, List, Some, length, slice_get}
use Rattle.net_types.specs.declared.netlist.Netlist.TheInside.{Inside}
use Rattle.net_types.specs.declared.atom.Atom.{Atom}
use Rattle.net_types.specs.declared.parts.NetlistParts.{NetlistParts}
use Rattle.net_types.specs.Ends.{IsDriver, AreSinks}
use Rattle.net_types.specs.WellFormed.{IsNetlist}

abbrev pub parts_of : Inside → NetlistParts
parts_of t = record { nets = t.nets; atoms = t.atoms }

-- the atom that makes each net
pub record HasDrivers (atoms : List Atom) (nets : ℕ) (drivers : List ℕ) : Type 0 where
  pub long : length drivers ≡ nets
  pub each : (net number : ℕ) → slice_get drivers net ≡ Some number → IsDriver atoms net number

-- the connections that take each net
pub record HasSinks (atoms : List Atom) (nets : ℕ) (table : List (List (ℕ × ℕ))) : Type 0 where
  pub long : length table ≡ nets
  pub each : (net : ℕ) (sinks : List (ℕ × ℕ)) → slice_get table net ≡ Some sinks →
      AreSinks atoms net sinks

pub record IsHeld (t : Inside) : Type 0 where
  pub kept : IsNetlist (parts_of t)
  pub drivers : HasDrivers t.atoms (length t.nets) t.drivers.items
  pub sinks : HasSinks t.atoms (length t.nets) t.sinks
