-- Edges found by the pins that they join.
use Rattle.std.specs.Prelude.{◌≡◌, ◌<◌, ◌+◌, ◌↔◌, ℕ, List, [], ◌∷◌, Some, slice_get}
use Rattle.vtr_base.specs.Lists.{Has}
use Rattle.pb_expand.specs.declared.number.EdgeIx.{EdgeIx}
use Rattle.pb_expand.specs.declared.number.Edge.{Edge}
use Rattle.pb_expand.specs.Graph.{Graph, edge_ix, into_from}

-- the list holds exactly the numbers of these edges, ascending
pub record AreEdgesWith (g : Graph) (Is : Edge → Type 0) (list : List EdgeIx) : Type 0 where
  pub exact : (k : ℕ) → Has list (edge_ix k) ↔ ((e : Edge) × (slice_get g.edges k ≡ Some e) × Is e)
  pub ascending : (i j : ℕ) (a b : EdgeIx) → i < j → slice_get list i ≡ Some a → slice_get list j ≡ Some b → a.0 < b.0

-- what `edges_into` lists: the edges with this end in this mode
abbrev pub ListsEnds : Graph → Type 0
ListsEnds g = (pin mode : ℕ) → AreEdgesWith g (λ e. (e.dst.0 ≡ pin) × (e.mode ≡ mode)) (into_from 0 g.edges pin mode)

-- each edge by a pin of it, with its number, counted from n on
abbrev pub pairs_from : (Edge → ℕ) → ℕ → List Edge → List (ℕ × EdgeIx)
pairs_from pin n [] = []
pairs_from pin n (e ∷ es) = (pin e, edge_ix n) ∷ pairs_from pin (n + 1) es
