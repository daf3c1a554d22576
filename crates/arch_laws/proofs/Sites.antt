-- Sites of tiles are block types with the tile's ports.
use Rattle.std.proofs.Common.{◌≡◌, ◌<◌, ◌==◌, ◌⊎◌, inl, inr, ℕ, Bool, true, false, List, [], ◌∷◌, codes, refl, sym, ◌∙◌, ap, subst, if◌then◌else◌, map, length, slice_index_or}
use Rattle.std.specs.List.{All, flat_map}
use Rattle.std.specs.Str.{bytes_eq}
use Rattle.std.proofs.lemmas.Bool.{false≢true}
use Rattle.std.proofs.lemmas.Bool.Decides.{Decides-eqb}
use Rattle.std.proofs.lemmas.Slice.Eq.{bytes_eq-Decides}
use Rattle.std.proofs.lemmas.List.{length-map}
use Rattle.std.proofs.lemmas.List.Elements.{All-nil, All-cons}
use Rattle.arch_types.specs.declared.arch.Tile.{Tile}
use Rattle.arch_types.specs.declared.block.PbType.{PbType}
use Rattle.arch_types.specs.declared.block.Port.{Port}
use Rattle.arch_types.specs.declared.block.Side.{Side}
use Rattle.arch_types.specs.declared.block.Side.TheVariants.{Input, Output, Clock}
use Rattle.elem_text.specs.declared.elem.Elem.{Elem, out-Elem}
use Rattle.elem_attrs.specs.Attributes.{has_tag, attr_of}
use Rattle.arch_build.specs.NamePlaces.{place_of}
use Rattle.arch_build.specs.Said.{within, count_in, said_port, said_site, said_sub_tile, said_tile, said_tiles}
use Rattle.arch_types.specs.Tree.{block_names}
use Rattle.arch_links.specs.First.{IsOfNone}
use Rattle.arch_links.specs.Links.{IsUnknown, SiteOf, HasOtherPorts, sites_in, sites_of, site_name, sub_tile_sites, site_names}
use Rattle.arch_rules.specs.Elements.{kids_of}
use Rattle.arch_types.specs.Tiles.{IsSite}
use Rattle.arch_laws.proofs.Lists.{flat_with, IsAt, at_inside}
use Rattle.arch_laws.proofs.Leaves.{IsNotNot, place_inside}
use Rattle.arch_laws.proofs.Known.{AreKnown, none_each}

-- Equal ports

abbrev IsDecided : Type 0 → Type 0
IsDecided P = P ⊎ (P → ⊥)

side_decided : (s t : Side) → IsDecided (s ≡ t)
side_decided Input Input = inl refl
side_decided Output Output = inl refl
side_decided Clock Clock = inl refl
side_decided Input Output = inr (λ same. absurd (cc))
side_decided Input Clock = inr (λ same. absurd (cc))
side_decided Output Input = inr (λ same. absurd (cc))
side_decided Output Clock = inr (λ same. absurd (cc))
side_decided Clock Input = inr (λ same. absurd (cc))
side_decided Clock Output = inr (λ same. absurd (cc))

name_decided : (a b : List ℕ) → IsDecided (a ≡ b)
name_decided a b = go (bytes_eq a b) refl
  where
    go : (t : Bool) → bytes_eq a b ≡ t → IsDecided (a ≡ b)
    go true is = inl ((bytes_eq-Decides a b).0 is)
    go false is = inr (λ same. false≢true (sym is ∙ (bytes_eq-Decides a b).1 same))

width_decided : (a b : ℕ) → IsDecided (a ≡ b)
width_decided a b = go (a == b) refl
  where
    go : (t : Bool) → (a == b) ≡ t → IsDecided (a ≡ b)
    go true is = inl ((Decides-eqb a b).0 is)
    go false is = inr (λ same. false≢true (sym is ∙ (Decides-eqb a b).1 same))

port_same : (p q : Port) → p.name ≡ q.name → p.side ≡ q.side → p.width ≡ q.width → p ≡ q
port_same p q names sides widths =
    ap (λ (x : List ℕ). (record { name = x; side = p.side; width = p.width })) names
    ∙ ap (λ (x : Side). (record { name = q.name; side = x; width = p.width })) sides
    ∙ ap (λ (x : ℕ). (record { name = q.name; side = q.side; width = x })) widths

port_decided : (p q : Port) → IsDecided (p ≡ q)
port_decided p q = go (name_decided p.name q.name) (side_decided p.side q.side) (width_decided p.width q.width)
  where
    go : IsDecided (p.name ≡ q.name) → IsDecided (p.side ≡ q.side) → IsDecided (p.width ≡ q.width) → IsDecided (p ≡ q)
    go (inl names) (inl sides) (inl widths) = inl (port_same p q names sides widths)
    go (inr other) sides widths = inr (λ same. other (ap (λ (x : Port). x.name) same))
    go (inl names) (inr other) widths = inr (λ same. other (ap (λ (x : Port). x.side) same))
    go (inl names) (inl sides) (inr other) = inr (λ same. other (ap (λ (x : Port). x.width) same))

first_same : (p q : Port) (ps qs : List Port) → p ∷ ps ≡ q ∷ qs → p ≡ q
first_same p q ps qs same = cc

rest_same : (p q : Port) (ps qs : List Port) → p ∷ ps ≡ q ∷ qs → ps ≡ qs
rest_same p q ps qs same = cc

both_same : (p q : Port) (ps qs : List Port) → p ≡ q → ps ≡ qs → p ∷ ps ≡ q ∷ qs
both_same p q ps qs first rest = cc

ports_decided : (ps qs : List Port) → IsDecided (ps ≡ qs)
ports_decided [] [] = inl refl
ports_decided [] (q ∷ qs) = inr (λ same. absurd (cc))
ports_decided (p ∷ ps) [] = inr (λ same. absurd (cc))
ports_decided (p ∷ ps) (q ∷ qs) = go (port_decided p q) (ports_decided ps qs)
  where
    go : IsDecided (p ≡ q) → IsDecided (ps ≡ qs) → IsDecided (p ∷ ps ≡ q ∷ qs)
    go (inl first) (inl rest) = inl (both_same p q ps qs first rest)
    go (inr other) rest = inr (λ same. other (first_same p q ps qs same))
    go (inl first) (inr other) = inr (λ same. other (rest_same p q ps qs same))

ports_same : (ps qs : List Port) → IsNotNot (ps ≡ qs) → ps ≡ qs
ports_same ps qs twice = go (ports_decided ps qs)
  where
    go : IsDecided (ps ≡ qs) → ps ≡ qs
    go (inl same) = same
    go (inr other) = absurd (twice other)

-- Sites of one tile

abbrev site_with : Tile → ℕ → SiteOf
site_with tile n = record { tile = tile; block = n }

fits_site : (blocks : List PbType) (tile : Tile) (n : ℕ) → n < length blocks → (HasOtherPorts blocks (site_with tile n) → ⊥) → IsSite blocks tile n
fits_site blocks tile n within fits =
    let block : IsAt blocks n = at_inside blocks n within in
    record {
      block = block.x;
      there = block.there;
      same = ports_same block.x.ports tile.ports (λ other. fits (record { is = block.x; there = block.there; other = other }));
    }

fits_sites : (blocks : List PbType) (tile : Tile) (sites : List ℕ) → IsOfNone (HasOtherPorts blocks) (map (site_with tile) sites) →
    All (λ n. HasOtherPorts blocks (site_with tile n) → ⊥) sites
fits_sites blocks tile [] none = All-nil (λ n. HasOtherPorts blocks (site_with tile n) → ⊥)
fits_sites blocks tile (n ∷ sites) none = All-cons (λ k. HasOtherPorts blocks (site_with tile k) → ⊥) n sites none.0 (fits_sites blocks tile sites none.1)

-- Sites that the file says

abbrev AreInside : ℕ → Tile → Type 0
AreInside many tile = All (λ n. n < many) tile.sites

module _ (names : List (List ℕ)) where
  in_within : {X : Type 0} (P : X → Type 0) (word : List ℕ) (f : Elem → List X) (g : Elem → List (List ℕ)) → ((x : Elem) → AreKnown names (g x) → All P (f x)) →
      (e : Elem) → AreKnown names (within word g e) → All P (within word f e)
  in_within P word f g gives e = go (has_tag e word)
    where
      go : (t : Bool) → AreKnown names (if t then flat_map g (kids_of e) else []) → All P (if t then flat_map f (kids_of e) else [])
      go false known = All-nil P
      go true known = flat_with P (λ x. AreKnown names (g x)) f gives (kids_of e) (none_each (IsUnknown names) g (kids_of e) known)

  abbrev IsInside : ℕ → Type 0
  IsInside n = n < length names

  in_site : (e : Elem) → AreKnown names (site_name e) → All IsInside (said_site names e)
  in_site e = go (has_tag e (codes "site"))
    where
      go : (t : Bool) → AreKnown names (if t then attr_of e (codes "pb_type") ∷ [] else []) →
          All IsInside (if t then place_of names (attr_of e (codes "pb_type")) ∷ [] else [])
      go false known = All-nil IsInside
      go true known =
          All-cons IsInside (place_of names (attr_of e (codes "pb_type"))) [] (place_inside names (attr_of e (codes "pb_type")) known.0) (All-nil IsInside)

  in_sub_tile : (name : List ℕ) (e : Elem) → AreKnown names (sub_tile_sites e) → All (AreInside (length names)) (said_sub_tile names name e)
  in_sub_tile name e = go (has_tag e (codes "sub_tile"))
    where
      one : Tile
      one = record {
        name = name;
        sub_name = attr_of e (codes "name");
        capacity = count_in (out-Elem e).attrs (codes "capacity");
        sites = flat_map (within (codes "equivalent_sites") (said_site names)) (kids_of e);
        ports = flat_map said_port (kids_of e);
      }

      go : (t : Bool) → AreKnown names (if t then flat_map (within (codes "equivalent_sites") site_name) (kids_of e) else []) →
          All (AreInside (length names)) (if t then one ∷ [] else [])
      go false known = All-nil (AreInside (length names))
      go true known =
          All-cons (AreInside (length names)) one []
          (flat_with IsInside (λ x. AreKnown names (within (codes "equivalent_sites") site_name x)) (within (codes "equivalent_sites") (said_site names))
          (in_within IsInside (codes "equivalent_sites") (said_site names) site_name in_site) (kids_of e)
          (none_each (IsUnknown names) (within (codes "equivalent_sites") site_name) (kids_of e) known)) (All-nil (AreInside (length names)))

  in_tile : (e : Elem) → AreKnown names (within (codes "tile") sub_tile_sites e) → All (AreInside (length names)) (said_tile names e)
  in_tile e = in_within (AreInside (length names)) (codes "tile") (said_sub_tile names (attr_of e (codes "name"))) sub_tile_sites (in_sub_tile (attr_of e (codes "name"))) e

  sites_inside : (root : Elem) → AreKnown names (site_names root) → All (AreInside (length names)) (said_tiles names root)
  sites_inside root known =
      flat_with (AreInside (length names)) (λ x. AreKnown names (within (codes "tiles") (within (codes "tile") sub_tile_sites) x)) (within (codes "tiles") (said_tile names))
      (in_within (AreInside (length names)) (codes "tiles") (said_tile names) (within (codes "tile") sub_tile_sites) in_tile) (kids_of root)
      (none_each (IsUnknown names) (within (codes "tiles") (within (codes "tile") sub_tile_sites)) (kids_of root) known)

-- the sites of each tile
pub sites_are : (blocks : List PbType) (root : Elem) → AreKnown (block_names blocks) (site_names root) →
    IsOfNone (HasOtherPorts blocks) (sites_of (said_tiles (block_names blocks) root)) →
    All (λ (t : Tile). All (IsSite blocks t) t.sites) (said_tiles (block_names blocks) root)
sites_are blocks root known fits k d within =
    let tiles = said_tiles (block_names blocks) root in
    let inside = sites_inside (block_names blocks) root known k d within in
    let alike = none_each (HasOtherPorts blocks) sites_in tiles fits k d within in
    let long : length (block_names blocks) ≡ length blocks = length-map blocks (λ (b : PbType). b.name) in
    λ j n in_sites.
    let t = slice_index_or tiles k d in
    fits_site blocks t (slice_index_or t.sites j n) (subst (λ m. slice_index_or t.sites j n < m) long (inside j n in_sites)) (fits_sites blocks t t.sites alike j n in_sites)
