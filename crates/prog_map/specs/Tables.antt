-- The tables of the order of sites: what stands in a mode, and in which modes something stands.
use Rattle.std.specs.Prelude.{◌≡◌, ◌⊎◌, ◌↔◌, ◌<◌, ℕ, List, [], true, length, slice_get}
use Rattle.std.specs.Option.{option_map_or}
use Rattle.vtr_base.specs.Lists.{Has}
use Rattle.pb_expand.specs.declared.number.Edge.{Edge}
use Rattle.pb_expand.specs.Graph.{Graph}
use Rattle.prog_map.specs.declared.order.Order.{Order}
use Rattle.prog_map.specs.Groups.{grouped}
use Rattle.prog_map.specs.Order.{hangs_at, kids, first_edges, HasParent}

-- an instance hangs on that mode of an instance
pub record HasKid (g : Graph) (pb mode : ℕ) : Type 0 where
  pub number : ℕ
  pub hangs : hangs_at g number pb mode ≡ true

-- an edge is of that mode of an instance
pub record HasEdge (g : Graph) (pb mode : ℕ) : Type 0 where
  pub edge : Edge
  pub there : Has g.edges edge
  pub owner : edge.owner.0 ≡ pb
  pub in_mode : edge.mode ≡ mode

abbrev pub IsBusy : Graph → ℕ → ℕ → Type 0
IsBusy g pb mode = HasKid g pb mode ⊎ HasEdge g pb mode

-- the instance and the mode that have an edge
abbrev pub owner_mode : Edge → ℕ × ℕ
owner_mode e = (e.owner.0, e.mode)

-- what a table has at a place; nothing behind its end
abbrev pub group_at : List (List ℕ) → ℕ → List ℕ
group_at table pb = option_map_or (λ (modes : List ℕ). modes) (slice_get table pb) []

-- the table has for each instance exactly its modes in which something stands
pub record AreBusyIn (g : Graph) (table : List (List ℕ)) : Type 0 where
  pub size : length table ≡ length g.instances
  pub modes : (pb mode : ℕ) → Has (group_at table pb) mode ↔ IsBusy g pb mode

-- the tables hold the instances that hang on each mode, its first edges, and where there are such
pub record IsOrderOf (g : Graph) (o : Order) : Type 0 where
  pub kids : (pb mode : ℕ) → grouped o.kids.numbers pb mode ≡ kids g pb mode
  pub firsts : (pb mode : ℕ) → grouped o.firsts.numbers pb mode ≡ first_edges g pb mode
  pub busy : AreBusyIn g o.busy
  pub parents : (pb : ℕ) → pb < length g.instances → HasParent g pb
