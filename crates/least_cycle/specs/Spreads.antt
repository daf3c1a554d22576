-- Distances as they spread from a node, backwards along edges, in the order of a queue.
use Rattle.std.specs.Prelude.{◌≡◌, ◌<◌, ◌≤◌, ◌+◌, ◌⊎◌, ℕ, suc, Bool, true, false, List, Option, Some, None, length, slice_get, count_by}
use Rattle.vtr_base.specs.Lists.{Has}
use Rattle.least_cycle.specs.Walks.{IsAt}

abbrev pub is_far : Option ℕ → Bool
is_far None = true
is_far (Some distance) = false

-- the node stands at that place of the queue, with its distance
abbrev pub IsQueued : List (ℕ × ℕ) → ℕ → ℕ → ℕ → Type 0
IsQueued queue i node distance = slice_get queue i ≡ Some (node, distance)

-- the listed nodes that had no distance have this one and stand at the end of the queue
pub record AreSpread (listed : List ℕ) (distance : ℕ) (distances : List (Option ℕ)) (queue : List
    (ℕ × ℕ)) (distances' : List (Option ℕ)) (queue' : List (ℕ × ℕ)) : Type 0 where
  pub each : length distances' ≡ length distances
  pub kept : (node d : ℕ) → IsAt distances node d → IsAt distances' node d
  pub given : (node d : ℕ) → IsAt distances' node d → IsAt distances node d ⊎ (Has listed node ×
      (d ≡ distance))
  pub all : (node : ℕ) → Has listed node → (d : ℕ) × IsAt distances' node d ×
      (IsAt distances node d ⊎ (d ≡ distance))
  pub queue_kept : (i node d : ℕ) → IsQueued queue i node d → IsQueued queue' i node d
  pub queue_new : (i node d : ℕ) → IsQueued queue' i node d → IsQueued queue i node d ⊎
      ((length queue ≤ i) × (d ≡ distance) × IsAt distances' node distance)
  pub queued : (node : ℕ) → IsAt distances' node distance → IsAt distances node distance ⊎
      Has {X = ℕ × ℕ} queue' (node, distance)
  pub count : length queue' + count_by is_far distances' ≡ length queue + count_by is_far distances

-- the queue up to a place was scanned: distances that don't fall along it, each found along an edge
-- to a node that is nearer by one, and no node from which an edge leads to a scanned one is farther
pub record IsScan (E : ℕ → ℕ →
    Type 0) (nodes to : ℕ) (distances : List (Option ℕ)) (queue : List (ℕ ×
    ℕ)) (at : ℕ) : Type 0 where
  pub each : length distances ≡ nodes
  pub queued : (i node d : ℕ) → IsQueued queue i node d → IsAt distances node d
  pub found : (node d : ℕ) → IsAt distances node d → (i : ℕ) × IsQueued queue i node d
  pub here : IsAt distances to 0
  pub only_here : (node : ℕ) → IsAt distances node 0 → node ≡ to
  pub nearer : (node d : ℕ) → IsAt distances node (suc d) → (next : ℕ) × E node next ×
      IsAt distances next d
  pub low : (i node d : ℕ) → IsQueued queue i node d → d ≤ i
  pub sorted : (i j v w d e : ℕ) → i ≤ j → IsQueued queue i v d → IsQueued queue j w e → d ≤ e
  pub narrow : (j v w d e : ℕ) → IsQueued queue at v d → IsQueued queue j w e → e ≤ d + 1
  pub scanned : (i node next d : ℕ) → i < at → IsQueued queue i next d → E node next →
      (e : ℕ) × IsAt distances node e × (e ≤ d + 1)
  pub few : length queue + count_by is_far distances ≤ nodes
