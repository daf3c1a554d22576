-- The order of sites: of an instance its own site or sites, and then mode by mode the pins in that
-- mode, by the first edge into each, and the instances that hang on it by that mode.
use Rattle.std.specs.Prelude.{◌≡◌, ◌⊎◌, ◌==◌, ◌&&◌, ◌+◌, ◌++◌, ℕ, zero, suc, Bool, false, List, [], ◌∷◌, Option, Some, None, map, flat_map, slice_get}
use Rattle.std.specs.Option.{option_map_or}
use Rattle.arch_types.specs.declared.block.Kind.{Kind, Modes', Row_of-Mode, end_of-Mode, more_of-Mode}
use Rattle.arch_types.specs.declared.block.Mode.{Mode, Mode', Row_of-PbType, end_of-PbType, more_of-PbType}
use Rattle.arch_types.specs.Address.{Address, Hop}
use Rattle.arch_types.specs.declared.block.AtomKind.TheVariants.{InPad, OutPad, Lut, Latch, Cell}
use Rattle.pb_expand.specs.declared.number.Edge.{Edge}
use Rattle.pb_expand.specs.declared.number.EdgeIx.{EdgeIx}
use Rattle.pb_expand.specs.declared.number.PbKind.{PbKind}
use Rattle.pb_expand.specs.declared.number.PbKind.TheVariants.{Leaf, Modes}
use Rattle.pb_expand.specs.declared.number.Step.{Step}
use Rattle.pb_expand.specs.Graph.{Graph, LeadsTo, kind_of, pb_ix, pin_ix, into_from}
use Rattle.prog_map.specs.declared.choice.LSite.{LSite}
use Rattle.prog_map.specs.declared.choice.LSite.TheVariants as site
use Rattle.prog_map.specs.Groups.{places_from}

abbrev pub same_hop : Hop → Hop → Bool
same_hop h k = (h.mode == k.mode) && ((h.child == k.child) && (h.instance == k.instance))

-- the second address is one step below the first, in that mode
abbrev pub is_step : Address → ℕ → Address → Bool
is_step [] mode [] = false
is_step [] mode (hop ∷ []) = hop.mode == mode
is_step [] mode (hop ∷ next ∷ hops) = false
is_step (above ∷ address) mode [] = false
is_step (above ∷ address) mode (hop ∷ hops) = same_hop above hop && is_step address mode hops

-- the address hangs on the instance of number `pb` by that mode
abbrev pub hangs : Graph → ℕ → ℕ → Address → Bool
hangs g pb mode address = option_map_or (λ above. is_step above mode address) (slice_get g.instances pb) false

-- the same for the instance of that number
abbrev pub hangs_at : Graph → ℕ → ℕ → ℕ → Bool
hangs_at g n pb mode = option_map_or (λ address. hangs g pb mode address) (slice_get g.instances n) false

-- the instances that hang on one by a mode, by number
abbrev pub kids : Graph → ℕ → ℕ → List ℕ
kids g pb mode = places_from (λ n address. hangs g pb mode address) 0 g.instances

abbrev pub starts_at : ℕ → List EdgeIx → Bool
starts_at n [] = false
starts_at n (edge ∷ edges) = edge.0 == n

-- the edge of number n is the first into its end in its mode
abbrev pub is_first : Graph → ℕ → Edge → Bool
is_first g n edge = starts_at n (into_from 0 g.edges edge.dst.0 edge.mode)

-- it is so, and is an edge of that mode of the instance of number `pb`
abbrev pub opens : Graph → ℕ → ℕ → ℕ → Edge → Bool
opens g pb mode n edge = ((edge.owner.0 == pb) && (edge.mode == mode)) && is_first g n edge

-- the same for the edge of that number
abbrev pub opens_at : Graph → ℕ → ℕ → ℕ → Bool
opens_at g n pb mode = option_map_or (λ edge. opens g pb mode n edge) (slice_get g.edges n) false

-- of the edges of a mode of an instance those that are the first into their ends, by number
abbrev pub first_edges : Graph → ℕ → ℕ → List ℕ
first_edges g pb mode = places_from (opens g pb mode) 0 g.edges

-- the pin into which an edge leads, in a mode
abbrev pub end_site : Graph → ℕ → ℕ → LSite
end_site g mode n = option_map_or (λ (edge : Edge). site.Pin edge.dst mode) (slice_get g.edges n) (site.Pin (pin_ix 0) mode)

-- the sites of an instance itself: the mode of one with modes, the use of a leaf, and what a LUT holds
abbrev pub own_sites : ℕ → Option PbKind → List LSite
own_sites pb None = []
own_sites pb (Some (Modes count)) = site.Mode (pb_ix pb) ∷ []
own_sites pb (Some (Leaf Lut)) = site.Used (pb_ix pb) ∷ site.Lut (pb_ix pb) ∷ []
own_sites pb (Some (Leaf InPad)) = site.Used (pb_ix pb) ∷ []
own_sites pb (Some (Leaf OutPad)) = site.Used (pb_ix pb) ∷ []
own_sites pb (Some (Leaf Latch)) = site.Used (pb_ix pb) ∷ []
own_sites pb (Some (Leaf (Cell model))) = site.Used (pb_ix pb) ∷ []

abbrev pub count_of : Option PbKind → ℕ
count_of None = 0
count_of (Some (Modes count)) = count
count_of (Some (Leaf atom)) = 0

-- which child of its parent's mode an instance is
abbrev pub last_child : Address → ℕ
last_child [] = 0
last_child (hop ∷ []) = hop.child
last_child (hop ∷ next ∷ hops) = last_child (next ∷ hops)

abbrev pub child_of : Graph → ℕ → ℕ
child_of g n = option_map_or last_child (slice_get g.instances n) 0

abbrev mutual
  -- the sites below an instance of that kind: those of its modes, one after another
  pub sites_below : Graph → Kind → ℕ → List LSite
  sites_below g (Modes' n modes) pb = sites_in_modes g modes pb 0
  sites_below g _ pb = []

  pub sites_in_modes : {n : _} → Graph → Row_of-Mode n → ℕ → ℕ → List LSite
  sites_in_modes g end_of-Mode pb mode = []
  sites_in_modes g (more_of-Mode m rest) pb mode = sites_in_mode g m pb mode ++ sites_in_modes g rest pb (mode + 1)

  -- of a mode the pins in it, and then the instances in it, each with what is below it
  pub sites_in_mode : Graph → Mode → ℕ → ℕ → List LSite
  sites_in_mode g (Mode' name n children inters metas) pb mode =
      map (end_site g mode) (first_edges g pb mode) ++ flat_map (λ kid. sites_of_child g children (child_of g kid) kid) (kids g pb mode)

  pub sites_of_child : {n : _} → Graph → Row_of-PbType n → ℕ → ℕ → List LSite
  sites_of_child g end_of-PbType child pb = []
  sites_of_child g (more_of-PbType name count ports kind metas rest) zero pb = own_sites pb (Some (kind_of kind)) ++ sites_below g kind pb
  sites_of_child g (more_of-PbType name count ports kind metas rest) (suc child) pb = sites_of_child g rest child pb

-- the sites of a block type in their order
abbrev pub site_order : Graph → List LSite
site_order g = own_sites 0 (Some (kind_of g.root.kind)) ++ sites_below g g.root.kind 0

-- the instance is the root, or hangs on an earlier one
abbrev pub HasParent : Graph → ℕ → Type 0
HasParent g pb = (pb ≡ 0) ⊎ ((step : Step) × LeadsTo g.instances step pb)
