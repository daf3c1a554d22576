-- What an error tells of a part, told of the whole.
use Rattle.std.proofs.Common.{◌≡◌, ◌<◌, ◌+◌, ◌∙◌, ℕ, List, ◌∷◌, ◌++◌, length, drop, suc, get_or, sym, ap, map, drop-cons, add-one}
use Rattle.arch_types.specs.declared.arch.ArchParts.{ArchParts}
use Rattle.arch_types.specs.declared.arch.Tile.{Tile}
use Rattle.arch_types.specs.declared.block.PbType.{PbType}
use Rattle.elem_text.specs.declared.elem.Elem.{Elem}
use Rattle.arch_links.specs.declared.error.LinkError.{LinkError}
use Rattle.arch_links.specs.declared.error.LinkError.TheVariants.{SitePorts, NoSuchBlock, UnknownModel, OutOfMemory}
use Rattle.arch_links.specs.Links.{SiteOf, HasOtherPorts, sites_in, sites_of, IsUnlinked}
use Rattle.arch_links.specs.Sites.{site_at, TellsMisfit, TellsFirstMisfit}
use Rattle.arch_links.proofs.Passing.{IsPassed, stops_at, stops_in}

pub tells_in : (blocks : List PbType) (xs ys rest : List SiteOf) (e : LinkError) → IsPassed (HasOtherPorts blocks) xs (ys ++ rest) →
    TellsFirstMisfit blocks ys e → TellsFirstMisfit blocks xs e
tells_in blocks xs ys rest (SitePorts tile site) passed told = (told.0, stops_in (HasOtherPorts blocks) xs ys rest told.0 passed told.1, told.2)
tells_in blocks xs ys rest OutOfMemory passed told = tt
tells_in blocks xs ys rest (NoSuchBlock name) passed told = absurd told
tells_in blocks xs ys rest (UnknownModel name) passed told = absurd told

pub tells_at : (blocks : List PbType) (xs : List SiteOf) (y : SiteOf) (rest : List SiteOf) (e : LinkError) → IsPassed (HasOtherPorts blocks) xs (y ∷ rest) →
    TellsMisfit blocks y e → TellsFirstMisfit blocks xs e
tells_at blocks xs y rest (SitePorts tile site) passed told =
    (y, stops_at (HasOtherPorts blocks) xs y rest passed (record { is = told.is; there = told.there; other = told.other }), told)
tells_at blocks xs y rest OutOfMemory passed told = tt
tells_at blocks xs y rest (NoSuchBlock name) passed told = absurd told
tells_at blocks xs y rest (UnknownModel name) passed told = absurd told

pub tells_file : (root : Elem) (a : ArchParts) (e : LinkError) → TellsFirstMisfit a.blocks (sites_of a.tiles) e → IsUnlinked root a e
tells_file root a (SitePorts tile site) told = record {
  s = told.0;
  first = told.1;
  is = told.2.is;
  there = told.2.there;
  of_tile = told.2.of_tile;
  of_block = told.2.of_block;
}
tells_file root a OutOfMemory told = tt
tells_file root a (NoSuchBlock name) told = absurd told
tells_file root a (UnknownModel name) told = absurd told

pub next_tile : (tiles : List Tile) (i : ℕ) (t : Tile) → i < length tiles → t ≡ get_or tiles i t → sites_of (drop i tiles) ≡ sites_in t ++ sites_of (drop (i + 1) tiles)
next_tile tiles i t inside is = rw add-one (ap (λ (l : List Tile). sites_of l) (cut))
  where
    cut : drop i tiles ≡ t ∷ drop (suc i) tiles
    cut = drop-cons tiles i t inside ∙ ap (λ x. x ∷ drop (suc i) tiles) (sym is)

pub next_site : (tile : Tile) (sites : List ℕ) (i : ℕ) → i < length sites →
    map (site_at tile) (drop i sites) ≡ site_at tile (get_or sites i 0) ∷ map (site_at tile) (drop (suc i) sites)
next_site tile sites i inside = ap (λ (l : List ℕ). map (site_at tile) l) (drop-cons sites i 0 inside)
