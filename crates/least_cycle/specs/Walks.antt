-- What the steps of the search hand on: ranks of components, distances, a cycle made step by step.
use Rattle.std.specs.Prelude.{◌≡◌, ◌<◌, ◌≤◌, ◌+◌, ◌⊎◌, ℕ, zero, suc, List, Option, Some, MatchOption, length, slice_get, slice_index}
use Rattle.vtr_base.specs.Lists.{Has}
use Rattle.least_cycle.specs.Cycles.{IsEdge}

-- the table of groups lists the one node in the group of the other
abbrev pub Joins : List (List ℕ) → ℕ → ℕ → Type 0
Joins table from to = (group : List ℕ) × (slice_get table from ≡ Some group) × Has group to

-- the same, from the listed node to that of the group
abbrev pub JoinsBack : List (List ℕ) → ℕ → ℕ → Type 0
JoinsBack table from to = Joins table to from

-- the groups list numbers of groups
abbrev pub AreNodes : List (List ℕ) → Type 0
AreNodes table = (from to : ℕ) → Joins table from to → to < length table

-- that many edges lead from the one node to the other
abbrev pub Leads : (ℕ → ℕ → Type 0) → ℕ → ℕ → ℕ → Type 0
Leads E zero from to = from ≡ to
Leads E (suc n) from to = (next : ℕ) × E from next × Leads E n next to

abbrev pub Reaches : (ℕ → ℕ → Type 0) → ℕ → ℕ → Type 0
Reaches E from to = (n : ℕ) × Leads E n from to

-- no edge falls, and what is at the ends of a level one lies on a cycle
pub record AreComponentRanks (E : ℕ → ℕ → Type 0) (nodes : ℕ) (ranks : List ℕ) : Type 0 where
  pub each : length ranks ≡ nodes
  pub never_fall : (from to : ℕ) → E from to → slice_index ranks from ≤ slice_index ranks to
  pub back : (from to : ℕ) → E from to → slice_index ranks from ≡ slice_index ranks to →
      Reaches E to from

-- an edge leads from the node to one of the same rank
abbrev pub LeadsLevel : List (ℕ × ℕ) → List ℕ → ℕ → Type 0
LeadsLevel edges ranks node = (to : ℕ) × IsEdge edges node to ×
    (slice_index ranks node ≡ slice_index ranks to)

-- the least number of which P holds
pub record IsLeastOf (P : ℕ → Type 0) (least : ℕ) : Type 0 where
  pub holds : P least
  pub below : (n : ℕ) → P n → least ≤ n

-- the least number of which P holds, and none where it holds of none
abbrev pub IsLeastIfAny : (ℕ → Type 0) → Option ℕ → Type 0
IsLeastIfAny P least = MatchOption least ((n : ℕ) → P n → ⊥) (IsLeastOf P)

-- the lower of a number and the one so far, if there is any
pub record IsLower (least : Option ℕ) (other lower : ℕ) : Type 0 where
  pub one : (lower ≡ other) ⊎ (least ≡ Some lower)
  pub by_other : lower ≤ other
  pub by_least : (n : ℕ) → least ≡ Some n → lower ≤ n

-- a node has that distance
abbrev pub IsAt : List (Option ℕ) → ℕ → ℕ → Type 0
IsAt distances node distance = slice_get distances node ≡ Some (Some distance)

-- the distance of each node to that one: the least number of edges that lead there, and none where
-- none lead there
pub record AreDistances (E : ℕ → ℕ →
    Type 0) (nodes to : ℕ) (distances : List (Option ℕ)) : Type 0 where
  pub each : length distances ≡ nodes
  pub here : IsAt distances to 0
  pub only_here : (node : ℕ) → IsAt distances node 0 → node ≡ to
  pub nearer : (node d : ℕ) → IsAt distances node (suc d) → (next : ℕ) × E node next ×
      IsAt distances next d
  pub near : (node next d : ℕ) → E node next → IsAt distances next d →
      (e : ℕ) × IsAt distances node e × (e ≤ d + 1)

-- a listed node has the distance
abbrev pub IsDistanceOf : List ℕ → List (Option ℕ) → ℕ → Type 0
IsDistanceOf listed distances distance = (node : ℕ) × Has listed node × IsAt distances node distance

-- the node is listed, and has the distance
abbrev pub IsListedAt : List ℕ → List (Option ℕ) → ℕ → ℕ → Type 0
IsListedAt listed distances distance node = Has listed node × IsAt distances node distance

-- the least node of the distance to which the table joins a node
abbrev pub IsLeastStep : List (List ℕ) → List (Option ℕ) → ℕ → ℕ → ℕ → Type 0
IsLeastStep table distances from distance to = IsLeastOf (λ node. Joins table from node ×
    IsAt distances node distance) to

-- nodes from the first on, with distances that fall by one from `nearest` on, down to `left` more,
-- each the least such one
pub record AreLeastSteps (table : List (List ℕ)) (distances : List (Option ℕ))
    (first nearest left : ℕ) (steps : List ℕ) : Type 0 where
  pub long : length steps + left ≡ nearest + 1
  pub begins : slice_get steps 0 ≡ Some first
  pub each : (i k from to : ℕ) → i + k ≡ nearest → slice_get steps i ≡ Some from →
      slice_get steps (suc i) ≡ Some to → IsLeastStep table distances from k to

-- a step from the first node to the nearest that can be stepped to, and on along least steps to the
-- first again
pub record IsLeastWay (table : List (List ℕ)) (distances : List (Option ℕ)) (first : ℕ)
    (cycle : List ℕ) : Type 0 where
  pub nearest : ℕ
  pub is_nearest : IsLeastOf (λ d. (node : ℕ) × Joins table first node ×
      IsAt distances node d) nearest
  pub steps : AreLeastSteps table distances first nearest 0 cycle
  pub back : (i last : ℕ) → i + 1 ≡ length cycle → slice_get cycle i ≡ Some last →
      Joins table last first
