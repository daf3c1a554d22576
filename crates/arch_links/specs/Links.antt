-- What ties the parts of an architecture file together by name (VTR architecture reference, "Tiles",
-- "Complex blocks", "Recognized BLIF models").
use Rattle.std.specs.Prelude.{◌≡◌, ℕ, if◌then◌else◌, List, [], ◌∷◌, ◌++◌, Option, Some, None, map, drop, take, codes, slice_get}
use Rattle.std.specs.Borrow.{Bor}
use Rattle.std.specs.List.{flat_map}
use Rattle.std.specs.Option.{option_and_then}
use Rattle.std.specs.Str.{bytes_eq}
use Rattle.arch_types.specs.declared.arch.ArchParts.{ArchParts}
use Rattle.arch_types.specs.declared.arch.Tile.{Tile}
use Rattle.arch_types.specs.declared.block.PbType.{PbType}
use Rattle.elem_text.specs.declared.elem.Elem.{Elem, Elem', Row_of-Elem, end_of-Elem, more_of-Elem, out-Elem}
use Rattle.elem_attrs.specs.Attributes.{value_of, attr_of, has_tag}
use Rattle.arch_build.specs.NamePlaces.{found_place}
use Rattle.arch_build.specs.Said.{inside, within}
use Rattle.arch_types.specs.Models.{model_names}
use Rattle.arch_types.specs.Tree.{block_names}
use Rattle.arch_links.specs.declared.error.LinkError.{LinkError}
use Rattle.arch_links.specs.declared.error.LinkError.TheVariants.{SitePorts, NoSuchBlock, UnknownModel, OutOfMemory}
use Rattle.arch_links.specs.First.{IsFirst, IsOfNone}

-- Sites and the ports of their tiles

-- a tile with the number of a block type that is a site of it
pub record SiteOf : Type 0 where
  pub tile : Tile
  pub block : ℕ

abbrev pub sites_in : Tile → List SiteOf
sites_in t = map (λ n. record { tile = t; block = n }) t.sites

-- the sites of all tiles, in file order
abbrev pub sites_of : List Tile → List SiteOf
sites_of tiles = flat_map sites_in tiles

-- the block type has other ports than the tile: another number of them, or one of another name, side
-- or width
pub record HasOtherPorts (blocks : List PbType) (s : SiteOf) : Type 0 where
  pub is : PbType
  pub there : slice_get blocks s.block ≡ Some is
  pub other : is.ports ≡ s.tile.ports → ⊥

-- the first such site, by the names of its tile and of its block type
pub record IsFirstMisfit (a : ArchParts) (tile site : List ℕ) : Type 0 where
  pub s : SiteOf
  pub first : IsFirst (HasOtherPorts a.blocks) (sites_of a.tiles) s
  pub is : PbType
  pub there : slice_get a.blocks s.block ≡ Some is
  pub of_tile : tile ≡ s.tile.name
  pub of_block : site ≡ is.name

-- Names

abbrev pub nows : List (Bor (List ℕ)) → List (List ℕ)
nows names = map (λ n. n.now) names

-- the name stands nowhere in the list
abbrev pub IsUnknown : List (List ℕ) → List ℕ → Type 0
IsUnknown known name = found_place known name ≡ None

abbrev pub site_name : Elem → List (List ℕ)
site_name e = if has_tag e (codes "site") then attr_of e (codes "pb_type") ∷ [] else []

abbrev pub sub_tile_sites : Elem → List (List ℕ)
sub_tile_sites e = within (codes "sub_tile") (within (codes "equivalent_sites") site_name) e

-- the names of block types that the sites of the file's tiles have, in file order
abbrev pub site_names : Elem → List (List ℕ)
site_names root = flat_map (within (codes "tiles") (within (codes "tile") sub_tile_sites)) (inside root)

-- the name of a box's model, which stands behind `.subckt` and a space
abbrev pub model_in : List ℕ → Option (List ℕ)
model_in text = if bytes_eq (take 8 text) (codes ".subckt ") then Some (drop 8 text) else None

abbrev pub listed : Option (List ℕ) → List (List ℕ)
listed None = []
listed (Some name) = name ∷ []

abbrev pub own_model : Elem → List (List ℕ)
own_model e = if has_tag e (codes "pb_type") then listed (option_and_then model_in (value_of (out-Elem e).attrs (codes "blif_model"))) else []

-- an element in which pb_types are looked for
abbrev pub holds_blocks : Elem → List (List ℕ) → List (List ℕ)
holds_blocks e below = if has_tag e (codes "pb_type") then below else if has_tag e (codes "mode") then below else []

-- the names of the models of boxes at an element and below it, in file order
abbrev mutual
  pub models_at : Elem → List (List ℕ)
  models_at (Elem' name attrs text n kids place) =
      own_model (Elem' name attrs text n kids place) ++ holds_blocks (Elem' name attrs text n kids place) (models_among kids)

  pub models_among : {m : _} → Row_of-Elem m → List (List ℕ)
  models_among end_of-Elem = []
  models_among (more_of-Elem e rest) = models_at e ++ models_among rest

-- the same of a block type; any other element beside it isn't read
abbrev pub block_models : Elem → List (List ℕ)
block_models e = if has_tag e (codes "pb_type") then models_at e else []

-- the same of the whole file
abbrev pub models_used : Elem → List (List ℕ)
models_used root = flat_map (within (codes "complexblocklist") block_models) (inside root)

-- The rules

-- each site has its tile's ports, each site names a block type, and each box a model
pub record AreLinked (root : Elem) (a : ArchParts) : Type 0 where
  pub ports : IsOfNone (HasOtherPorts a.blocks) (sites_of a.tiles)
  pub blocks : IsOfNone (IsUnknown (block_names a.blocks)) (site_names root)
  pub models : IsOfNone (IsUnknown (model_names a.models)) (models_used root)

-- the error tells the first of these rules that doesn't hold, with the first place at which it doesn't
abbrev pub IsUnlinked : Elem → ArchParts → LinkError → Type 0
IsUnlinked root a (SitePorts tile site) = IsFirstMisfit a tile site
IsUnlinked root a (NoSuchBlock name) = IsOfNone (HasOtherPorts a.blocks) (sites_of a.tiles) × IsFirst (IsUnknown (block_names a.blocks)) (site_names root) name
IsUnlinked root a (UnknownModel name) =
    IsOfNone (HasOtherPorts a.blocks) (sites_of a.tiles) × IsOfNone (IsUnknown (block_names a.blocks)) (site_names root)
    × IsFirst (IsUnknown (model_names a.models)) (models_used root) name
IsUnlinked root a OutOfMemory = Unit {0}
