-- The search for strongly connected components, along one path of components (as Gabow's). Where an
-- edge leads back on the path, the components from there on become one; a component without an edge
-- that is still to be followed is closed, with a lower rank than all that were closed before.
use Rattle.std.specs.Prelude.{◌≡◌, ◌<◌, ◌≤◌, ◌+◌, ◌*◌, ◌^◌, ◌⊎◌, ℕ, Bool, true, false, List, [], Some, length, slice_get, replicate, count_by}
use Rattle.vtr_base.specs.Lists.{Has}
use Rattle.least_cycle.specs.declared.components.Place.{Place}
use Rattle.least_cycle.specs.declared.components.Place.TheVariants.{Unseen, Open, Closed}
use Rattle.least_cycle.specs.declared.components.Component.{Component}
use Rattle.least_cycle.specs.Walks.{Joins, Reaches}

abbrev pub is_unseen : Place → Bool
is_unseen Unseen = true
is_unseen (Open place) = false
is_unseen (Closed rank) = false

-- the rank of a closed node
abbrev pub rank_of : Place → ℕ
rank_of Unseen = 0
rank_of (Open place) = 0
rank_of (Closed rank) = rank

-- a search so far: the path of open nodes, the nodes that their edges still lead to, the components
-- of the path, the place of each node, and the lowest rank so far
pub record State : Type 0 where
  pub path : List ℕ
  pub ahead : List ℕ
  pub components : List Component
  pub places : List Place
  pub low : ℕ

abbrev pub IsPlace : State → ℕ → Place → Type 0
IsPlace s node place = slice_get s.places node ≡ Some place

-- where an edge from a node of the component, or of a later one, leads: to a closed node, to such a
-- node itself, or to one that is still ahead
abbrev pub LeadsOn : State → Component → ℕ → Type 0
LeadsOn s component to = ((rank : ℕ) × IsPlace s to (Closed rank))
    ⊎ (((place : ℕ) × IsPlace s to (Open place) × (component.path ≤ place))
    ⊎ ((e : ℕ) × (component.ahead ≤ e) × (slice_get s.ahead e ≡ Some to)))

-- an edge leads there from a node of the path, which belongs to the component to which the place in
-- what is ahead belongs
pub record ComesFrom (table : List (List ℕ)) (s : State) (e to : ℕ) : Type 0 where
  pub place : ℕ
  pub node : ℕ
  pub node_is : slice_get s.path place ≡ Some node
  pub joins : Joins table node to
  pub behind : (k : ℕ) (a : Component) → slice_get s.components k ≡ Some a → a.ahead ≤ e →
      a.path ≤ place
  pub before : (k : ℕ) (a : Component) → slice_get s.components k ≡ Some a → e < a.ahead →
      place < a.path

-- no component begins after the one place of the path and not after the other
abbrev pub NoComponentBetween : State → ℕ → ℕ → Type 0
NoComponentBetween s low high = (k : ℕ) (component : Component) →
    slice_get s.components k ≡ Some component → component.path ≤ high → component.path ≤ low

-- later components begin no earlier
abbrev pub AreOrdered : List Component → Type 0
AreOrdered components = (k j : ℕ) (a b : Component) → k ≤ j → slice_get components k ≡ Some a →
    slice_get components j ≡ Some b →
    (a.path ≤ b.path) × (a.ahead ≤ b.ahead)

-- what holds of a search at each step
pub record IsSearch (table : List (List ℕ)) (s : State) : Type 0 where
  pub each : length s.places ≡ length table
  pub opened : (i node : ℕ) → slice_get s.path i ≡ Some node → IsPlace s node (Open i)
  pub on_path : (i node : ℕ) → IsPlace s node (Open i) → slice_get s.path i ≡ Some node
  pub ordered : AreOrdered s.components
  pub within : (k : ℕ) (a : Component) → slice_get s.components k ≡ Some a →
      (a.path ≤ length s.path) × (a.ahead ≤ length s.ahead)
  pub begins : (a : Component) → slice_get s.components 0 ≡ Some a → a.path ≡ 0
  pub some_component : 0 < length s.path → 0 < length s.components
  pub follows : (k : ℕ) (a : Component) (i node to : ℕ) → slice_get s.components k ≡ Some a →
      a.path ≤ i →
      slice_get s.path i ≡ Some node → Joins table node to → LeadsOn s a to
  pub comes : (e to : ℕ) → slice_get s.ahead e ≡ Some to → ComesFrom table s e to
  pub reach : (i j x y : ℕ) → slice_get s.path i ≡ Some x → slice_get s.path j ≡ Some y →
      NoComponentBetween s j i → Reaches (Joins table) x y
  pub lowest : (node rank : ℕ) → IsPlace s node (Closed rank) → s.low ≤ rank
  pub never_fall : (from to rank : ℕ) → IsPlace s from (Closed rank) → Joins table from to →
      (higher : ℕ) × IsPlace s to (Closed higher) × (rank ≤ higher)
  pub connected : (x y rank : ℕ) → IsPlace s x (Closed rank) → IsPlace s y (Closed rank) →
      Reaches (Joins table) x y
  pub room : length s.components + count_by is_unseen s.places ≤ s.low

-- nothing was looked at
pub record IsFresh (nodes : ℕ) (s : State) : Type 0 where
  pub path : s.path ≡ []
  pub ahead : s.ahead ≡ []
  pub components : s.components ≡ []
  pub places : s.places ≡ replicate nodes Unseen
  pub low : s.low ≡ nodes

-- what falls at each step of the search: nodes that aren't seen yet, and then what is ahead and the
-- components
abbrev pub effort : State → ℕ
effort s = count_by is_unseen s.places * 2 ^ 65 + (length s.ahead + length s.components)

-- a node that is on the path or closed stays so
abbrev pub KeepsSeen : State → State → Type 0
KeepsSeen old new = (node : ℕ) → IsPlace new node Unseen → IsPlace old node Unseen

-- the search went on
pub record GoesOn (table : List (List ℕ)) (old new : State) : Type 0 where
  pub search : IsSearch table new
  pub less : effort new < effort old
  pub seen : KeepsSeen old new

-- it is a search of some table
abbrev pub IsSomeSearch : State → Type 0
IsSomeSearch s = (table : List (List ℕ)) × IsSearch table s

-- a search of a table went on
abbrev pub StaysSearch : State → State → Type 0
StaysSearch old new = (table : List (List ℕ)) → IsSearch table old → GoesOn table old new

-- all nodes of the path reach the node
abbrev pub AllReach : List (List ℕ) → State → ℕ → Type 0
AllReach table s node = (i x : ℕ) → slice_get s.path i ≡ Some x → Reaches (Joins table) x node

-- the last component
abbrev pub IsLast : State → Component → Type 0
IsLast s component = (k : ℕ) × (k + 1 ≡ length s.components) ×
    (slice_get s.components k ≡ Some component)

-- the node comes last of what is ahead, and belongs to the last component
pub record IsNext (s : State) (component : Component) (node : ℕ) : Type 0 where
  pub last : IsLast s component
  pub place : ℕ
  pub place_is : place + 1 ≡ length s.ahead
  pub node_is : slice_get s.ahead place ≡ Some node
  pub of_component : component.ahead ≤ place

-- a search of a table whose next node stands at that place of the path went on
abbrev pub Merges : ℕ → State → State → Type 0
Merges at old new = (table : List (List ℕ)) (component : Component) (node : ℕ) → IsSearch table old →
    IsNext old component node → IsPlace old node (Open at) → GoesOn table old new

-- that many components begin by that place of the path
pub record IsCut (components : List Component) (at count : ℕ) : Type 0 where
  pub some_component : 0 < count
  pub within : count ≤ length components
  pub last : (k : ℕ) (component : Component) → k + 1 ≡ count →
      slice_get components k ≡ Some component → component.path ≤ at
  pub later : (k : ℕ) (component : Component) → count ≤ k →
      slice_get components k ≡ Some component → at < component.path

-- the listed nodes get that rank, and nothing else changes
pub record AreMarked (listed : List ℕ) (rank : ℕ) (old new : List Place) : Type 0 where
  pub each : length new ≡ length old
  pub marked : (node : ℕ) → Has listed node → slice_get new node ≡ Some (Closed rank)
  pub others : (node : ℕ) → (Has listed node → ⊥) → slice_get new node ≡ slice_get old node
  pub unseen : count_by is_unseen new ≡ count_by is_unseen old

-- the listed nodes were seen
abbrev pub AreSeen : List ℕ → List Place → Type 0
AreSeen listed places = (node : ℕ) → Has listed node → (place : Place) ×
    (slice_get places node ≡ Some place) × (is_unseen place ≡ false)
