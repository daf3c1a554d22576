-- What the steps hand on: the maker of each net, and the edges between LUTs.
use Rattle.std.specs.Prelude.{◌≡◌, ◌≤◌, ◌+◌, ◌⊎◌, ℕ, List, Option, Some, MatchOption, length, slice_get}
use Rattle.vtr_base.specs.Lists.{Has}
use Rattle.arch_types.specs.declared.block.AtomKind.TheVariants.{Lut}
use Rattle.net_types.specs.declared.atom.Atom.{Atom}
use Rattle.net_types.specs.declared.atom.Conn.{Conn}
use Rattle.net_types.specs.Ends.{IsDriver}
use Rattle.least_cycle.specs.Cycles.{IsEdge}
use Rattle.net_faults.specs.Drivers.{IsMade}

-- an atom that makes the net, and none where no atom does
abbrev pub IsMakerOf : List Atom → ℕ → Option ℕ → Type 0
IsMakerOf atoms net maker = MatchOption maker (IsMade atoms net → ⊥) (IsDriver atoms net)

-- the makers of all nets
pub record AreMakers (atoms : List Atom) (nets : ℕ) (makers : List (Option ℕ)) : Type 0 where
  pub long : length makers ≡ nets
  pub each : (net : ℕ) (maker : Option ℕ) → slice_get makers net ≡ Some maker →
      IsMakerOf atoms net maker

-- a connection is of the net
abbrev pub HasNet : List Conn → ℕ → Type 0
HasNet conns net = (conn : Conn) × Has conns conn × (conn.net ≡ net)

-- the nets of these connections have that maker now, and nothing else changes
pub record PutsMaker (conns : List Conn) (number : ℕ) (old new : List (Option ℕ)) : Type 0 where
  pub long : length new ≡ length old
  pub put : (net : ℕ) → HasNet conns net → slice_get new net ≡ Some (Some number)
  pub kept : (net : ℕ) → (HasNet conns net → ⊥) → slice_get new net ≡ slice_get old net

-- the atom with this number is a LUT that makes the net
pub record IsLutOf (atoms : List Atom) (net number : ℕ) : Type 0 where
  pub drives : IsDriver atoms net number
  pub atom : Atom
  pub there : slice_get atoms number ≡ Some atom
  pub is_lut : atom.kind ≡ Lut

-- the LUT makes the net of one of the connections
abbrev pub FeedsOne : List Atom → List Conn → ℕ → Type 0
FeedsOne atoms conns maker = (conn : Conn) × Has conns conn × IsLutOf atoms conn.net maker

-- from each LUT that makes a net of the connections an edge leads to the taker, beside the old edges
pub record AddsFeeds (atoms : List Atom) (taker : ℕ) (conns : List Conn) (old new : List (ℕ × ℕ)) :
    Type 0 where
  pub kept : (maker to : ℕ) → IsEdge old maker to → IsEdge new maker to
  pub added : (maker : ℕ) → FeedsOne atoms conns maker → IsEdge new maker taker
  pub only : (maker to : ℕ) → IsEdge new maker to →
      IsEdge old maker to ⊎ ((to ≡ taker) × FeedsOne atoms conns maker)
  pub few : length new ≤ length old + length conns
