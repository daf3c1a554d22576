-- What stands above a site: the sites whose choices hold it, each with the choice that it has to have.
-- Instances go by their address, so that this serves every graph of the block type.
use Rattle.std.specs.Prelude.{◌≡◌, ◌<◌, ℕ, List, [], ◌∷◌, ◌++◌, Some, slice_get}
use Rattle.std.specs.Option.{option_map_or}
use Rattle.vtr_base.specs.Lists.{Has}
use Rattle.arch_types.specs.Address.{Address, Hop}
use Rattle.pb_expand.specs.declared.number.Edge.{Edge}
use Rattle.pb_expand.specs.declared.number.EdgeIx.{EdgeIx}
use Rattle.pb_expand.specs.Graph.{Graph, into_from}
use Rattle.prog_map.specs.declared.choice.LSite.{LSite}
use Rattle.prog_map.specs.declared.choice.LSite.TheVariants.{Mode, Pin, Used, Lut}

-- a site by the address of its instance; of a pin that of the owner of the edges into it
pub data LocalSite : Type 0 where
  mode_at : Address → LocalSite
  pin_at : Address → ℕ → ℕ → LocalSite
  used_at : Address → LocalSite
  lut_at : Address → LocalSite

-- a site, and what its choice has to be: of an instance's mode its number, of a leaf's use 0
pub record LocalNeed : Type 0 where
  pub at : LocalSite
  pub held : ℕ

abbrev pub local_need : LocalSite → ℕ → LocalNeed
local_need at held = record { at = at; held = held }

-- on the way down from `here` the mode of each instance in which the next one stands
abbrev pub needs_from : Address → List Hop → List LocalNeed
needs_from here [] = []
needs_from here (hop ∷ hops) = local_need (mode_at here) hop.mode ∷ needs_from (here ++ hop ∷ []) hops

-- what stands above a site
abbrev pub local_above : LocalSite → List LocalNeed
local_above (mode_at a) = needs_from [] a
local_above (pin_at a mode pin) = needs_from [] a ++ local_need (mode_at a) mode ∷ []
local_above (used_at a) = needs_from [] a
local_above (lut_at a) = needs_from [] a ++ local_need (used_at a) 0 ∷ []

abbrev pub address_of : Graph → ℕ → Address
address_of g n = option_map_or (λ (a : Address). a) (slice_get g.instances n) []

abbrev pub owner_of_first : Graph → List EdgeIx → Address
owner_of_first g [] = []
owner_of_first g (e ∷ es) = option_map_or (λ (edge : Edge). address_of g edge.owner.0) (slice_get g.edges e.0) []

abbrev pub local_of : Graph → LSite → LocalSite
local_of g (Mode pb) = mode_at (address_of g pb.0)
local_of g (Pin pin mode) = pin_at (owner_of_first g (into_from 0 g.edges pin.0 mode)) mode pin.0
local_of g (Used pb) = used_at (address_of g pb.0)
local_of g (Lut pb) = lut_at (address_of g pb.0)

-- the same for a site of a graph
abbrev pub needs_of : Graph → LSite → List LocalNeed
needs_of g s = local_above (local_of g s)

-- sites under one choice stand together: what stands above two sites stands above each between them
pub record StandTogether (g : Graph) (sites : List LSite) : Type 0 where
  pub each : (i j k : ℕ) (x y z : LSite) (n : LocalNeed) → i < j → j < k → slice_get sites i ≡ Some x → slice_get sites j ≡ Some y → slice_get sites k ≡ Some z →
      Has (needs_of g x) n → Has (needs_of g z) n → Has (needs_of g y) n
