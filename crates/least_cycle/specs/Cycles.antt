-- Cycles along the edges of a graph, the least of them, and rankings of nodes.
use Rattle.std.specs.Prelude.{◌≡◌, ◌<◌, ◌≤◌, ◌+◌, ◌-◌, ◌⊎◌, ℕ, List, length, slice_index}
use Rattle.vtr_base.specs.Lists.{Has}
use Rattle.list_laws.specs.Orders.{Once}

-- an edge leads from the one node to the other
abbrev pub IsEdge : List (ℕ × ℕ) → ℕ → ℕ → Type 0
IsEdge edges from to = Has {X = ℕ × ℕ} edges (from, to)

-- nodes, each with an edge to the next one, and the last with one to the first
pub record IsCycle (edges : List (ℕ × ℕ)) (cycle : List ℕ) : Type 0 where
  pub some_node : 0 < length cycle
  pub along_edges : (i : ℕ) → i + 1 < length cycle →
      IsEdge edges (slice_index cycle i) (slice_index cycle (i + 1))
  pub closed : IsEdge edges (slice_index cycle (length cycle - 1)) (slice_index cycle 0)

-- a cycle that begins at the node, as each cycle through it may be begun there
pub record IsCycleFrom (edges : List (ℕ × ℕ)) (node : ℕ) (cycle : List ℕ) : Type 0 where
  pub is_cycle : IsCycle edges cycle
  pub begins : slice_index cycle 0 ≡ node

-- some cycle goes through the node
pub record LiesOnCycle (edges : List (ℕ × ℕ)) (node : ℕ) : Type 0 where
  pub cycle : List ℕ
  pub is_cycle : IsCycle edges cycle
  pub on_it : Has cycle node

-- at the first place where the lists differ, the left one has the lower number
pub record ComesBefore (xs ys : List ℕ) : Type 0 where
  pub place : ℕ
  pub within : place < length xs
  pub within_other : place < length ys
  pub same : (i : ℕ) → i < place → slice_index xs i ≡ slice_index ys i
  pub lower : slice_index xs place < slice_index ys place

-- of the cycles through its first node a shortest one, and of those of its length that begin there
-- the first in lexicographic order
pub record IsLeastOfShortest (edges : List (ℕ × ℕ)) (cycle : List ℕ) : Type 0 where
  pub shortest : (other : List ℕ) → IsCycle edges other → Has other (slice_index cycle 0) →
      length cycle ≤ length other
  pub least : (other : List ℕ) → IsCycleFrom edges (slice_index cycle 0) other →
      length other ≡ length cycle → (other ≡ cycle) ⊎ ComesBefore cycle other

-- a cycle from the least node that lies on any, a shortest one, of these the first; no node stands
-- on it twice
pub record IsLeastCycle (edges : List (ℕ × ℕ)) (cycle : List ℕ) : Type 0 where
  pub is_cycle : IsCycle edges cycle
  pub least_node : (node : ℕ) → LiesOnCycle edges node → slice_index cycle 0 ≤ node
  pub least : IsLeastOfShortest edges cycle
  pub once : Once cycle

-- each edge leads to a node of a higher rank
pub record IsRanking (nodes : ℕ) (edges : List (ℕ × ℕ)) (ranks : List ℕ) : Type 0 where
  pub each : length ranks ≡ nodes
  pub rises : (from to : ℕ) → IsEdge edges from to →
      slice_index ranks from < slice_index ranks to

-- both ends of each edge are nodes
abbrev pub AreBetween : ℕ → List (ℕ × ℕ) → Type 0
AreBetween nodes edges = (from to : ℕ) → IsEdge edges from to → (from < nodes) × (to < nodes)
