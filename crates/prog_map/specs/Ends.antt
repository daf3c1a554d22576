-- Nodes by number, where each leads to one other at most: where walks from them end.
use Rattle.std.specs.Prelude.{◌≡◌, ◌<◌, ◌⊎◌, ℕ, true, false, Bool, List, [], ◌∷◌, Option, Some, length, slice_get}
use Rattle.vtr_base.specs.Lists.{Has}
use Rattle.list_laws.specs.Orders.{Once}
use Rattle.prog_map.specs.Walk.{IsLast}

-- the node leads to that one
abbrev pub Leads : List (Option ℕ) → ℕ → ℕ → Type 0
Leads steps node next = slice_get steps node ≡ Some (Some next)

-- each leads to one that is there
pub record StayInside (steps : List (Option ℕ)) : Type 0 where
  pub each : (node next : ℕ) → Leads steps node next → next < length steps

-- each node that was met has its last one, and leads to one that was met
pub record AreSettled (steps : List (Option ℕ)) (met : List Bool) (last : List ℕ) : Type 0 where
  pub marks : length met ≡ length steps
  pub all : length last ≡ length steps
  pub end : (node : ℕ) → slice_get met node ≡ Some true → (end : ℕ) × (slice_get last node ≡ Some end) × IsLast (Leads steps) node end
  pub closed : (node next : ℕ) → slice_get met node ≡ Some true → Leads steps node next → slice_get met next ≡ Some true

-- steps lead from each node of a list to the one behind it
abbrev pub IsPath : (ℕ → ℕ → Type 0) → ℕ → List ℕ → Type 0
IsPath Step node [] = Unit {0}
IsPath Step node (next ∷ later) = Step node next × IsPath Step next later

abbrev pub last_of : ℕ → List ℕ → ℕ
last_of node [] = node
last_of node (next ∷ later) = last_of next later

-- a walk from `start` to `end` over nodes that weren't met, as far as it leads to one that wasn't; they
-- are met now, and no others
pub record IsWalked (steps : List (Option ℕ)) (old new : List Bool) (start end : ℕ) (walk : List ℕ) : Type 0 where
  pub later : List ℕ
  pub is : walk ≡ start ∷ later
  pub end_is : end ≡ last_of start later
  pub path : IsPath (Leads steps) start later
  pub once : Once (start ∷ later)
  pub marks : length new ≡ length old
  pub unmet : (node : ℕ) → Has walk node → slice_get old node ≡ Some false
  pub met : (node : ℕ) → Has walk node → slice_get new node ≡ Some true
  pub kept : (node : ℕ) → slice_get old node ≡ Some true → slice_get new node ≡ Some true
  pub only : (node : ℕ) → slice_get new node ≡ Some true → (slice_get old node ≡ Some true) ⊎ Has walk node

-- the node leads to none that wasn't met
pub record EndsAt (steps : List (Option ℕ)) (met : List Bool) (node : ℕ) : Type 0 where
  pub ends : (next : ℕ) → Leads steps node next → slice_get met next ≡ Some true

-- a node that was met before a walk has its last one, and leads to another such node
pub record IsSettled (steps : List (Option ℕ)) (met : List Bool) (last walk : List ℕ) (node : ℕ) : Type 0 where
  pub end : ℕ
  pub is : slice_get last node ≡ Some end
  pub is_last : IsLast (Leads steps) node end
  pub apart : Has walk node → ⊥
  pub closed : (next : ℕ) → Leads steps node next → (slice_get met next ≡ Some true) × (Has walk next → ⊥)

-- each node that was met is settled, but for those on a walk, which leads to none that wasn't met
pub record AreOpen (steps : List (Option ℕ)) (met : List Bool) (last : List ℕ) (end : ℕ) (walk : List ℕ) : Type 0 where
  pub start : ℕ
  pub later : List ℕ
  pub is : walk ≡ start ∷ later
  pub end_is : end ≡ last_of start later
  pub path : IsPath (Leads steps) start later
  pub once : Once (start ∷ later)
  pub ends : EndsAt steps met end
  pub marks : length met ≡ length steps
  pub all : length last ≡ length steps
  pub marked : (node : ℕ) → Has walk node → slice_get met node ≡ Some true
  pub rest : (node : ℕ) → slice_get met node ≡ Some true → Has walk node ⊎ IsSettled steps met last walk node

-- of the nodes of a list each has the one before it, the first one `end`; other nodes keep what they had
pub record Turns (old new : List ℕ) (end : ℕ) (nodes : List ℕ) : Type 0 where
  pub all : length new ≡ length old
  pub each : (k node before : ℕ) → slice_get nodes k ≡ Some node → slice_get (end ∷ nodes) k ≡ Some before → slice_get new node ≡ Some before
  pub kept : (node : ℕ) → (Has nodes node → ⊥) → slice_get new node ≡ slice_get old node

-- each node of a list has that end; other nodes keep what they had
pub record GetEnd (old new : List ℕ) (end : ℕ) (nodes : List ℕ) : Type 0 where
  pub all : length new ≡ length old
  pub each : (node : ℕ) → Has nodes node → slice_get new node ≡ Some end
  pub kept : (node : ℕ) → (Has nodes node → ⊥) → slice_get new node ≡ slice_get old node
