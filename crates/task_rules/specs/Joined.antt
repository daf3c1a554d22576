-- The atoms of a list by their places, and the nets of their connections.
use Rattle.std.specs.Prelude.{◌≡◌, ◌<◌, ◌↔◌, ℕ, List, ◌++◌, Some, IsTrue, MatchOption, map, slice_get}
use Rattle.vtr_base.specs.Lists.{Has}
use Rattle.list_laws.specs.Orders.{Ordered}
use Rattle.net_types.specs.declared.atom.Atom.{Atom}
use Rattle.net_types.specs.declared.atom.Conn.{Conn}
use Rattle.net_types.specs.Ends.{IsDriver, IsSink}
use Rattle.task_types.specs.declared.task.TaskNet.{TaskNet}
use Rattle.task_types.specs.Nets.{NetSaid}

-- the atom at that place of the list
pub record IsListed (n : NetSaid) (atoms : List ℕ) (place : ℕ) (atom : Atom) : Type 0 where
  pub number : ℕ
  pub listed : slice_get atoms place ≡ Some number
  pub is : slice_get n number ≡ Some atom

-- a connection of an atom of the list is of the net
pub record IsJoined (n : NetSaid) (atoms : List ℕ) (net : ℕ) : Type 0 where
  pub place : ℕ
  pub atom : Atom
  pub listed : IsListed n atoms place atom
  pub conn : Conn
  pub of_atom : Has (atom.ins ++ atom.outs) conn
  pub of_net : conn.net ≡ net

-- the atom at that place of the list drives the net
pub record IsMakerAt (n : NetSaid) (atoms : List ℕ) (net place : ℕ) : Type 0 where
  pub number : ℕ
  pub listed : slice_get atoms place ≡ Some number
  pub drives : IsDriver n net number

-- an atom that isn't of the list reads the net
pub record IsReadOutside (n : NetSaid) (atoms : List ℕ) (net : ℕ) : Type 0 where
  pub number : ℕ
  pub input : ℕ
  pub reads : IsSink n net number input
  pub outside : Has atoms number → ⊥

-- the place of the atom that drives the net, where that is of the list, and whether an atom outside
-- the list reads it
pub record IsNetOf (n : NetSaid) (atoms : List ℕ) (of : TaskNet) : Type 0 where
  pub maker : MatchOption of.maker ((place : ℕ) → IsMakerAt n atoms of.net place → ⊥)
      (IsMakerAt n atoms of.net)
  pub leaves : IsTrue of.leaves ↔ IsReadOutside n atoms of.net

-- the numbers of the nets in the netlist
abbrev pub numbers_of : List TaskNet → List ℕ
numbers_of nets = map (λ (of : TaskNet). of.net) nets

-- the nets of the atoms' connections, each once, ascending
pub record AreNetsOf (n : NetSaid) (atoms : List ℕ) (nets : List TaskNet) : Type 0 where
  pub ascend : Ordered ◌<◌ (numbers_of nets)
  pub joined : (net : ℕ) → Has (numbers_of nets) net ↔ IsJoined n atoms net
  pub each : (of : TaskNet) → Has nets of → IsNetOf n atoms of
