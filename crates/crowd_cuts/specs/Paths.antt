-- Paths along the edges of a graph, paths that share no node, and nodes that all paths meet.
use Rattle.std.specs.Prelude.{◌≡◌, ◌<◌, ◌+◌, ◌-◌, ℕ, List, [], length, slice_index, slice_index_or}
use Rattle.std.specs.List.{Contains}

-- nodes along edges from a start to an end; a start that is an end is a path of one node
pub record IsPath (edges : List (ℕ × ℕ)) (starts ends path : List ℕ) : Type 0 where
  pub some_node : 0 < length path
  pub from_start : Contains starts (slice_index path 0)
  pub along_edges : (i : ℕ) → i + 1 < length path → Contains edges (slice_index path i, slice_index path (i + 1))
  pub to_end : Contains ends (slice_index path (length path - 1))

-- no node stands on two of the paths, nor twice on one
abbrev pub ShareNoNode : List (List ℕ) → Type 0
ShareNoNode paths = (a b x y : ℕ) → a < length paths → b < length paths → x < length (slice_index_or paths a []) → y < length (slice_index_or paths b []) →
    slice_index (slice_index_or paths a []) x ≡ slice_index (slice_index_or paths b []) y → (a ≡ b) × (x ≡ y)

-- that many paths that share no node
pub record AreDisjointPaths (edges : List (ℕ × ℕ)) (starts ends : List ℕ) (count : ℕ) (paths : List (List ℕ)) : Type 0 where
  pub as_many : length paths ≡ count
  pub are_paths : (a : ℕ) → a < length paths → IsPath edges starts ends (slice_index_or paths a [])
  pub disjoint : ShareNoNode paths

-- a node of the path is in the set
abbrev pub Meets : List ℕ → List ℕ → Type 0
Meets path cut = (i : ℕ) × (i < length path) × Contains cut (slice_index path i)

-- different nodes of the graph, fewer than the count, that every path from a start to an end meets
pub record IsSmallCut (nodes : ℕ) (edges : List (ℕ × ℕ)) (starts ends : List ℕ) (count : ℕ) (cut : List ℕ) : Type 0 where
  pub fewer : length cut < count
  pub different : (i j : ℕ) → i < j → j < length cut → slice_index cut i ≡ slice_index cut j → ⊥
  pub are_nodes : (i : ℕ) → i < length cut → slice_index cut i < nodes
  pub met : (path : List ℕ) → IsPath edges starts ends path → Meets path cut
