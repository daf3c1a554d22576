-- What is known of sites while they are compared.
use Rattle.std.specs.Prelude.{◌≡◌, ℕ, true, List, Some, nat_eq, slice_get}
use Rattle.std.specs.HashSet.{HashSet, contains}
use Rattle.arch_types.specs.declared.arch.Tile.{Tile}
use Rattle.arch_types.specs.declared.block.PbType.{PbType}
use Rattle.arch_links.specs.declared.error.LinkError.{LinkError}
use Rattle.arch_links.specs.declared.error.LinkError.TheVariants.{SitePorts, OutOfMemory}
use Rattle.arch_links.specs.First.{IsFirst}
use Rattle.arch_links.specs.Links.{SiteOf, HasOtherPorts}

abbrev pub site_at : Tile → ℕ → SiteOf
site_at tile block = record { tile = tile; block = block }

-- each of these block types has the tile's ports
pub record AreFitting {S : Type 0} (blocks : List PbType) (tile : Tile) (fitting : HashSet ℕ S) : Type 0 where
  pub fit : (n : ℕ) → contains nat_eq fitting n ≡ true → HasOtherPorts blocks (site_at tile n) → ⊥

-- the names of a site's tile and block type, which has other ports
pub record IsMisfit (blocks : List PbType) (s : SiteOf) (tile site : List ℕ) : Type 0 where
  pub is : PbType
  pub there : slice_get blocks s.block ≡ Some is
  pub other : is.ports ≡ s.tile.ports → ⊥
  pub of_tile : tile ≡ s.tile.name
  pub of_block : site ≡ is.name

-- the error tells that this site has other ports than its tile, or memory ran out
abbrev pub TellsMisfit : List PbType → SiteOf → LinkError → Type 0
TellsMisfit blocks s (SitePorts tile site) = IsMisfit blocks s tile site
TellsMisfit blocks s OutOfMemory = Unit {0}
TellsMisfit blocks s _ = ⊥

-- the same of the first such site among these
abbrev pub TellsFirstMisfit : List PbType → List SiteOf → LinkError → Type 0
TellsFirstMisfit blocks sites (SitePorts tile site) = (s : SiteOf) × IsFirst (HasOtherPorts blocks) sites s × IsMisfit blocks s tile site
TellsFirstMisfit blocks sites OutOfMemory = Unit {0}
TellsFirstMisfit blocks sites _ = ⊥
