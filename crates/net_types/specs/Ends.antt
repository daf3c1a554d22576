-- The connections of a netlist by their net: the one that makes it, and those that take it.
use Rattle.std.specs.Prelude.{◌≡◌, ◌<◌, ◌⊎◌, ◌↔◌, ℕ, List, Some, slice_get}
use Rattle.vtr_base.specs.Lists.{Has}
use Rattle.list_laws.specs.Orders.{Ordered}
use Rattle.net_types.specs.declared.atom.Atom.{Atom}
use Rattle.net_types.specs.declared.atom.Conn.{Conn}

-- the output with this place at the atom with this number is of the net
pub record IsMaker (atoms : List Atom) (net : ℕ) (number place : ℕ) : Type 0 where
  pub atom : Atom
  pub there : slice_get atoms number ≡ Some atom
  pub conn : Conn
  pub at : slice_get atom.outs place ≡ Some conn
  pub of_net : conn.net ≡ net

-- the input with this place at the atom with this number is of the net
pub record IsSink (atoms : List Atom) (net : ℕ) (number place : ℕ) : Type 0 where
  pub atom : Atom
  pub there : slice_get atoms number ≡ Some atom
  pub conn : Conn
  pub at : slice_get atom.ins place ≡ Some conn
  pub of_net : conn.net ≡ net

-- one output is of the net
pub record HasOneMaker (atoms : List Atom) (net : ℕ) : Type 0 where
  pub number : ℕ
  pub place : ℕ
  pub makes : IsMaker atoms net number place
  pub only : (other at : ℕ) → IsMaker atoms net other at → (other ≡ number) × (at ≡ place)

-- an output of the atom with this number is of the net
abbrev pub IsDriver : List Atom → ℕ → ℕ → Type 0
IsDriver atoms net number = (place : ℕ) × IsMaker atoms net number place

-- by atoms, and at one atom by places
abbrev pub ComesBefore : ℕ × ℕ → ℕ × ℕ → Type 0
ComesBefore s t = (s.0 < t.0) ⊎ ((s.0 ≡ t.0) × (s.1 < t.1))

-- the inputs that are of the net, ascending, by their atoms and their places there
pub record AreSinks (atoms : List Atom) (net : ℕ) (sinks : List (ℕ × ℕ)) : Type 0 where
  pub ascend : Ordered ComesBefore sinks
  pub each : (number place : ℕ) →
      Has {X = ℕ × ℕ} sinks (number, place) ↔ IsSink atoms net number place
