-- Connections as they are put into tables.
use Rattle.std.specs.Prelude.{◌≡◌, ◌+◌, ℕ, List, [], ◌∷◌, Some, length, slice_get}
use Rattle.vtr_base.specs.Lists.{Has}
use Rattle.net_types.specs.declared.atom.Conn.{Conn}

-- the connections from this place on of the atom with this number, each behind its net
abbrev pub pairs_at : ℕ → ℕ → List Conn → List (ℕ × (ℕ × ℕ))
pairs_at number place [] = []
pairs_at number place (conn ∷ conns) =
    (conn.net, (number, place)) ∷ pairs_at number (place + 1) conns

-- the atom with this number stands at the nets of the connections, and nothing else changes
pub record PutsMaker (conns : List Conn) (number : ℕ) (old new : List ℕ) : Type 0 where
  pub long : length new ≡ length old
  pub put : (conn : Conn) → Has conns conn → slice_get new conn.net ≡ Some number
  pub kept : (net : ℕ) → ((conn : Conn) → Has conns conn → conn.net ≡ net → ⊥) →
      slice_get new net ≡ slice_get old net
