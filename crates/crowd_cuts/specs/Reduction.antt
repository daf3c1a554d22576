-- Paths that share no node as a placing. What is placed is each node, and from `nodes` on each wanted path; it is placed on a
-- node, or, from `nodes` on, on the way out of a node. A wanted path stands on the start where it begins, a node on the node to
-- which a path goes on from it, on its way out where a path ends in it, and on itself where none passes it.
use Rattle.std.specs.Prelude.{◌≡◌, ◌<◌, ◌≤◌, ◌+◌, ◌-◌, ◌⊎◌, ℕ, Bool, true, false, List, [], ◌∷◌, ◌++◌, length, map, min, slice_index, slice_index_or, not, nat_lt, if◌then◌else◌}
use Rattle.std.specs.List.{Contains, filter, range_with_len}
use Rattle.matching.specs.Bipartite.{Graph, GoTogether}

-- the number on the left may be placed on the number on the right
abbrev pub IsPair : ℕ → List (ℕ × ℕ) → List ℕ → List ℕ → ℕ → ℕ → Type 0
IsPair nodes edges starts ends left right =
    ((left < nodes) × (right ≡ left)) ⊎ (Contains {X = ℕ × ℕ} edges (left, right) ⊎ (((right ≡ nodes + left) × Contains ends left) ⊎ ((nodes ≤ left) × Contains starts right)))

-- each edge is between two nodes of the graph
abbrev pub AreBetween : ℕ → List (ℕ × ℕ) → Type 0
AreBetween nodes edges = (from to : ℕ) → Contains {X = ℕ × ℕ} edges (from, to) → (from < nodes) × (to < nodes)

-- each of the list is a node of the graph
abbrev pub AreNodes : ℕ → List ℕ → Type 0
AreNodes nodes xs = (node : ℕ) → Contains xs node → node < nodes

-- the rows: each node has its own, all wanted paths have one, behind the nodes'
abbrev pub rows_of : ℕ → ℕ → List ℕ
rows_of nodes count = map (λ left. min left nodes) (range_with_len 0 (nodes + count))

-- what is listed of the rows: nodes themselves, edges, ends with their way out, starts
abbrev pub pairs_of : ℕ → List (ℕ × ℕ) → List ℕ → List ℕ → List (ℕ × ℕ)
pairs_of nodes edges starts ends =
    ((map {B = ℕ × ℕ} (λ (node : ℕ). (node, node)) (range_with_len 0 nodes) ++ edges) ++ map {B = ℕ × ℕ} (λ (end : ℕ). (end, nodes + end)) ends) ++ map {B = ℕ × ℕ} (λ (start : ℕ). (nodes, start)) starts

-- what goes together are the pairs
pub record IsReduced (nodes : ℕ) (edges : List (ℕ × ℕ)) (starts ends : List ℕ) (count : ℕ) (g : Graph) : Type 0 where
  pub each : length g.rows ≡ nodes + count
  pub joined : (left right : ℕ) → left < nodes + count → IsPair nodes edges starts ends left right → GoTogether g left right
  pub only : (left right : ℕ) → GoTogether g left right → IsPair nodes edges starts ends left right

-- from what `left` is placed on, the nodes go on each to what it is placed on, and then comes `next`
pub record IsTrail (nodes : ℕ) (places : List ℕ) (left : ℕ) (trail : List ℕ) (next : ℕ) : Type 0 where
  pub inside : (i : ℕ) → i < length trail → slice_index trail i < nodes
  pub steps : (i : ℕ) → i < length trail → slice_index places (slice_index (left ∷ trail) i) ≡ slice_index trail i
  pub goes_on : slice_index places (slice_index (left ∷ trail) (length trail)) ≡ next

-- a trail that goes on to no node
abbrev pub IsWholeTrail : ℕ → List ℕ → ℕ → List ℕ → Type 0
IsWholeTrail nodes places left trail = (next : ℕ) × (nodes ≤ next) × IsTrail nodes places left trail next

-- a trail from each wanted path, which goes on to no node
pub record AreTrails (nodes : ℕ) (places : List ℕ) (count : ℕ) (trails : List (List ℕ)) : Type 0 where
  pub as_many : length trails ≡ count
  pub each : (a : ℕ) → a < count → IsWholeTrail nodes places (nodes + a) (slice_index_or trails a [])

-- the nodes that stand among the numbers are marked
pub record AreMarked (nodes : ℕ) (lefts : List ℕ) (marks : List Bool) : Type 0 where
  pub each : length marks ≡ nodes
  pub marked : (node : ℕ) → node < nodes → Contains lefts node → slice_index_or marks node false ≡ true
  pub only : (node : ℕ) → slice_index_or marks node false ≡ true → Contains lefts node

-- the node that a number on the right belongs to
abbrev pub node_of : ℕ → ℕ → ℕ
node_of nodes right = if nat_lt right nodes then right else right - nodes

-- the nodes of the numbers that aren't marked
abbrev pub unmarked : ℕ → List Bool → List ℕ → List ℕ
unmarked nodes marks rights = map (node_of nodes) (filter (λ right. not (slice_index_or marks right false)) rights)

-- a list of the nodes of the numbers that aren't marked, where the nodes among the others are
abbrev pub IsUnmarked : ℕ → List ℕ → List ℕ → List ℕ → Type 0
IsUnmarked nodes lefts rights cut = (marks : List Bool) × AreMarked nodes lefts marks × (cut ≡ unmarked nodes marks rights)
