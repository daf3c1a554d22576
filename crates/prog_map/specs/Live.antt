-- A site is live where each site above it has the choice that holds it. What is chosen is given by
-- look-ups, so that this serves programmings and the settings of a search alike.
use Rattle.std.specs.Prelude.{◌≡◌, ◌<◌, ◌↔◌, ◌++◌, ◌∷◌, ℕ, Bool, true, List, Option, Some, length, slice_get}
use Rattle.arch_types.specs.Address.{Address, Hop}
use Rattle.pb_expand.specs.declared.number.Step.{Step}
use Rattle.pb_expand.specs.Graph.{Graph}
use Rattle.prog_map.specs.declared.choice.LSite.{LSite}
use Rattle.prog_map.specs.declared.choice.LSite.TheVariants as site
use Rattle.prog_map.specs.Leaves.{IsLeaf, IsLut, HasModes}
use Rattle.prog_map.specs.Choices.{IsEdgeInto}

-- the instance of number pb stands below that of number `above`, in this mode of it
pub record StandsIn (g : Graph) (pb above mode : ℕ) : Type 0 where
  pub address : Address
  pub is_above : slice_get g.instances above ≡ Some address
  pub hop : Hop
  pub hops : List Hop
  pub is_mode : hop.mode ≡ mode
  pub is_below : slice_get g.instances pb ≡ Some (address ++ hop ∷ hops)

-- each instance above this one is set to the mode in which this one stands
pub record IsLiveAt (g : Graph) (modes : ℕ → Option ℕ) (pb : ℕ) : Type 0 where
  pub inside : pb < length g.instances
  pub each : (above mode : ℕ) → StandsIn g pb above mode → modes above ≡ Some mode

-- a child is live exactly where its parent is live and set to the mode in which the child stands
abbrev pub IsLiveBelow : Graph → (ℕ → Option ℕ) → Step → ℕ → Type 0
IsLiveBelow g modes s n = IsLiveAt g modes n ↔ (IsLiveAt g modes s.parent.0 × (modes s.parent.0 ≡ Some s.mode))

-- for each instance whether it is live
pub record AreLive (g : Graph) (modes : ℕ → Option ℕ) (live : List Bool) : Type 0 where
  pub all : length live ≡ length g.instances
  pub exact : (pb : ℕ) → (slice_get live pb ≡ Some true) ↔ IsLiveAt g modes pb

-- the site is there: the mode of an instance that isn't a leaf, a pin in a mode with an edge into it,
-- the use of a leaf, what a LUT holds
abbrev pub IsSiteOf : Graph → LSite → Type 0
IsSiteOf g (site.Mode pb) = HasModes g pb.0
IsSiteOf g (site.Pin pin mode) = (number : ℕ) × IsEdgeInto g pin.0 mode number
IsSiteOf g (site.Used pb) = IsLeaf g pb.0
IsSiteOf g (site.Lut pb) = IsLut g pb.0

-- the owner of the edges into a pin in a mode is live, and set to that mode
pub record IsLivePin (g : Graph) (modes : ℕ → Option ℕ) (pin mode : ℕ) : Type 0 where
  pub number : ℕ
  pub into : IsEdgeInto g pin mode number
  pub live : IsLiveAt g modes into.edge.owner.0
  pub chosen : modes into.edge.owner.0 ≡ Some mode

-- the site is there and live, where `modes` says the mode of each instance, and `used` which leaves
-- are used
abbrev pub IsLiveSite : Graph → (ℕ → Option ℕ) → (ℕ → Bool) → LSite → Type 0
IsLiveSite g modes used (site.Mode pb) = HasModes g pb.0 × IsLiveAt g modes pb.0
IsLiveSite g modes used (site.Pin pin mode) = IsLivePin g modes pin.0 mode
IsLiveSite g modes used (site.Used pb) = IsLeaf g pb.0 × IsLiveAt g modes pb.0
IsLiveSite g modes used (site.Lut pb) = IsLut g pb.0 × IsLiveAt g modes pb.0 × (used pb.0 ≡ true)

-- the same of the first n instances
pub record AreLiveBefore (g : Graph) (modes : ℕ → Option ℕ) (live : List Bool) (n : ℕ) : Type 0 where
  pub all : length live ≡ n
  pub exact : (pb : ℕ) → (slice_get live pb ≡ Some true) ↔ ((pb < n) × IsLiveAt g modes pb)
