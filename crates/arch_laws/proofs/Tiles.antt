-- Tiles of a file without broken rules.
use Rattle.std.proofs.Common.{◌≡◌, ◌≤◌, ◌<◌, ◌^◌, inl, inr, ℕ, Bool, true, false, List, [], ◌∷◌, ◌++◌, codes, refl, sym, ◌∙◌, ap, subst, arith, cond, if◌then◌else◌, map, length}
use Rattle.std.specs.Prelude.{filter, IsUtf8}
use Rattle.std.specs.List.{All, flat_map}
use Rattle.std.proofs.lemmas.List.Sums.{length-filter}
use Rattle.std.proofs.lemmas.List.Elements.{All-nil, All-cons}
use Rattle.arch_types.specs.declared.arch.Tile.{Tile}
use Rattle.arch_types.specs.declared.block.PbType.{PbType}
use Rattle.elem_text.specs.declared.elem.Elem.{Elem, out-Elem}
use Rattle.elem_text.specs.Held.{IsUtf8Elem, elements}
use Rattle.elem_attrs.specs.Attributes.{has_tag, attr_of}
use Rattle.arch_build.specs.Said.{within, count_in, said_port, said_site, said_sub_tile, said_tile, said_tiles}
use Rattle.arch_types.specs.Tree.{block_names}
use Rattle.arch_links.specs.First.{IsOfNone}
use Rattle.arch_links.specs.Links.{HasOtherPorts, sites_of, site_names}
use Rattle.arch_rules.specs.declared.role.Role.TheVariants as role
use Rattle.arch_rules.specs.declared.role.Sort.TheVariants as sort
use Rattle.arch_types.specs.Names.{IsPlainName}
use Rattle.arch_rules.specs.Elements.{name_of, kids_of, is_named, how_many}
use Rattle.arch_rules.specs.Roles.{role_in, sort_of}
use Rattle.arch_rules.specs.Rules.{Inside, role_at}
use Rattle.arch_rules.specs.Walks.{inside, cousins, IsFine, IsFineAt, IsFineFile}
use Rattle.arch_types.specs.Names.{AreDifferent}
use Rattle.arch_types.specs.Counts.{IsCount, IsShort}
use Rattle.arch_types.specs.Blocks.{ArePorts}
use Rattle.arch_types.specs.Tiles.{AreTiles, tile_names}
use Rattle.arch_laws.proofs.Each.{IsFineDeep, each_with}
use Rattle.arch_laws.proofs.Held.{attr_utf8, within_few}
use Rattle.arch_laws.proofs.HeldBlocks.{IsHeld, if_few}
use Rattle.arch_laws.proofs.Listed.{kids_held, listed_short}
use Rattle.arch_laws.proofs.Siblings.{Gives}
use Rattle.arch_laws.proofs.Texts.{named_by, plain_decided, same_text, count_is}
use Rattle.arch_laws.proofs.Roles.{tag_is, fine_as, HoldsPorts, tile_ports}
use Rattle.arch_laws.proofs.Ports.{ports_good}
use Rattle.arch_laws.proofs.Leaves.{same_number}
use Rattle.arch_laws.proofs.Known.{AreKnown}
use Rattle.arch_laws.proofs.Top.{in_list, top_fine, tiles_list, each_listed, names_differ}
use Rattle.arch_laws.proofs.Sites.{sites_are}

-- one list element for each child of a name
by_filter : {X : Type 0} (word : List ℕ) (g : Elem → X) (kids : List Elem) →
    flat_map (λ e. if has_tag e word then g e ∷ [] else []) kids ≡ map g (filter (is_named word) kids)
by_filter word g [] = refl
by_filter word g (e ∷ kids) = go (is_named word e) (by_filter word g kids)
  where
    go : (t : Bool) → flat_map (λ x. if has_tag x word then g x ∷ [] else []) kids ≡ map g (filter (is_named word) kids) →
        (if t then g e ∷ [] else []) ++ flat_map (λ x. if has_tag x word then g x ∷ [] else []) kids ≡ map g (cond t (e ∷ filter (is_named word) kids) (filter (is_named word) kids))
    go true rest = ap (λ l. g e ∷ l) rest
    go false rest = rest

-- the name of a tile or of a sub_tile
record IsTileName (name : List ℕ) : Type 0 where
  plain : IsPlainName name
  utf8 : IsUtf8 name

-- what a tile has of itself
record IsOwnTile (tile : Tile) : Type 0 where
  name : IsTileName tile.name
  sub_name : IsTileName tile.sub_name
  capacity : IsCount tile.capacity
  ports : ArePorts tile.ports
  few_sites : IsShort tile.sites

module _ (blocks : List (List ℕ)) where
  abbrev tile_with : List ℕ → Elem → Tile
  tile_with name e = record {
    name = name;
    sub_name = attr_of e (codes "name");
    capacity = count_in (out-Elem e).attrs (codes "capacity");
    sites = flat_map (within (codes "equivalent_sites") (said_site blocks)) (kids_of e);
    ports = flat_map said_port (kids_of e);
  }

  abbrev tiles : Inside
  tiles = in_list role.Tiles

  tile_role : (e : Elem) → has_tag e (codes "tile") ≡ true → role_at tiles e ≡ role.Tile
  tile_role e tag = subst (λ n. role_in role.Tiles n ≡ role.Tile) (sym (tag_is e (codes "tile") tag)) refl

  one_sub_tile : (Taken : Type 0) (e : Elem) → IsFine role.Tile Taken e → how_many (codes "sub_tile") e ≡ 1
  one_sub_tile Taken e fine = same_number (how_many (codes "sub_tile") e) 1 fine.0.1

  gives_tile : (before : List Elem) (e : Elem) → IsFineAt tiles before e → Gives tiles sort.Units (λ (t : Tile). t.name) e (said_tile blocks e)
  gives_tile before e own = go (has_tag e (codes "tile")) refl
    where
      name : List ℕ
      name = attr_of e (codes "name")

      go : (t : Bool) → has_tag e (codes "tile") ≡ t →
          Gives tiles sort.Units (λ (t : Tile). t.name) e (if t then flat_map (said_sub_tile blocks (attr_of e (codes "name"))) (kids_of e) else [])
      go false tag = inl refl
      go true tag =
          by (filter (is_named (codes "sub_tile")) (kids_of e)) refl
          (length-filter (is_named (codes "sub_tile")) (kids_of e) ∙ one_sub_tile _ e (fine_as (role_at tiles e) role.Tile _ e (tile_role e tag) own))
        where
          by : (l : List Elem) → filter (is_named (codes "sub_tile")) (kids_of e) ≡ l → length l ≡ 1 →
              Gives tiles sort.Units (λ (t : Tile). t.name) e (flat_map (said_sub_tile blocks (attr_of e (codes "name"))) (kids_of e))
          by [] same one = absurd (omega (arith, one))
          by (sub ∷ second ∷ l) same one = absurd (omega (arith, one))
          by (sub ∷ []) same one = inr (
            tile_with (attr_of e (codes "name")) sub,
            by_filter (codes "sub_tile") (tile_with (attr_of e (codes "name"))) (kids_of e) ∙ ap (λ l. map (tile_with (attr_of e (codes "name"))) l) same,
            ap sort_of (tile_role e tag),
            same_text e (codes "name"),
          )

  sub_tile_good : (at : Inside) → at.parent ≡ role.Tile → (name : List ℕ) → IsTileName name → (before : List Elem) (e : Elem) → IsFineDeep at before e → IsHeld e →
      All IsOwnTile (said_sub_tile blocks name e)
  sub_tile_good at parent name named before e deep held = go (has_tag e (codes "sub_tile")) refl
    where
      go : (t : Bool) → has_tag e (codes "sub_tile") ≡ t → All IsOwnTile (if t then tile_with name e ∷ [] else [])
      go false tag = All-nil IsOwnTile
      go true tag =
          let role_is : role_at at e ≡ role.SubTile =
          ap (λ r. role_in r (name_of e)) parent ∙ subst (λ n. role_in role.Tile n ≡ role.SubTile) (sym (tag_is e (codes "sub_tile") tag)) refl in
          let holds : HoldsPorts (role_at at e) = subst HoldsPorts (sym role_is) tile_ports in
          All-cons IsOwnTile (tile_with name e) [] (record {
            name = named;
            sub_name = record {
              plain = named_by IsPlainName plain_decided role.SubTile _ e [] refl (λ un. un) (λ text may. may) (fine_as (role_at at e) role.SubTile _ e role_is deep.0);
              utf8 = attr_utf8 e (codes "name") held.utf8;
            };
            capacity = count_is (out-Elem e).attrs (codes "capacity");
            ports = ports_good (inside at e) holds (cousins (role_at at e) before) e deep.1 held.utf8 held.few;
            few_sites = listed_short (codes "equivalent_sites") (said_site blocks) (λ site. if_few site (has_tag site (codes "site")) _) e held;
          }) (All-nil IsOwnTile)

  tile_good : (before : List Elem) (e : Elem) → IsFineDeep tiles before e → IsHeld e → All IsOwnTile (said_tile blocks e)
  tile_good before e deep held = go (has_tag e (codes "tile")) refl
    where
      name : List ℕ
      name = attr_of e (codes "name")

      go : (t : Bool) → has_tag e (codes "tile") ≡ t → All IsOwnTile (if t then flat_map (said_sub_tile blocks name) (kids_of e) else [])
      go false tag = All-nil IsOwnTile
      go true tag =
          let plain : IsPlainName name =
          named_by IsPlainName plain_decided role.Tile _ e [] refl (λ un. un) (λ text may. may) (fine_as (role_at tiles e) role.Tile _ e (tile_role e tag) deep.0) in
          each_with IsOwnTile IsHeld (said_sub_tile blocks name) (inside tiles e) (cousins (role_at tiles e) before) (kids_of e) deep.1 (kids_held e held)
          (sub_tile_good (inside tiles e) (tile_role e tag) name (record { plain = plain; utf8 = attr_utf8 e (codes "name") held.utf8 }))

  own_tiles : (root : Elem) → IsFineFile root → IsHeld root → All IsOwnTile (said_tiles blocks root)
  own_tiles root fine held =
      each_listed role.Tiles (codes "tiles") IsOwnTile IsHeld (said_tile blocks) tiles_list.is [] (kids_of root) (top_fine root fine) (kids_held root held)
      (λ before e tag own deep. each_with IsOwnTile IsHeld (said_tile blocks) tiles before (kids_of e) deep (kids_held e own) tile_good)

  tile_few : (e : Elem) → length (said_tile blocks e) ≤ elements e
  tile_few e =
      let name : List ℕ = attr_of e (codes "name") in
      within_few (codes "tile") (said_sub_tile blocks name) (λ sub. if_few sub (has_tag sub (codes "sub_tile")) _) e

  tiles_differ : (root : Elem) → IsFineFile root → AreDifferent (tile_names (said_tiles blocks root))
  tiles_differ root fine =
      names_differ role.Tiles (codes "tiles") tiles_list (λ (t : Tile). t.name) (said_tile blocks) gives_tile (kids_of root) (top_fine root fine)

tiles_good : (blocks : List PbType) (root : Elem) → IsFineFile root → IsHeld root → AreKnown (block_names blocks) (site_names root) →
    IsOfNone (HasOtherPorts blocks) (sites_of (said_tiles (block_names blocks) root)) → AreTiles blocks (said_tiles (block_names blocks) root)
tiles_good blocks root fine held known fits = record {
  each = λ k d within.
      let own = own_tiles (block_names blocks) root fine held k d within in
      record {
        name = own.name.plain;
        utf8 = own.name.utf8;
        sub_name = own.sub_name.plain;
        sub_utf8 = own.sub_name.utf8;
        capacity = own.capacity;
        ports = own.ports;
        sites = record { each = sites_are blocks root known fits k d within; few = own.few_sites };
      };
  different = tiles_differ (block_names blocks) root fine;
  few = listed_short (codes "tiles") (said_tile (block_names blocks)) (tile_few (block_names blocks)) root held;
}

pub tiles_are : (blocks : List PbType) (root : Elem) → IsFineFile root → IsUtf8Elem root → elements root < 2 ^ 32 → AreKnown (block_names blocks) (site_names root) →
    IsOfNone (HasOtherPorts blocks) (sites_of (said_tiles (block_names blocks) root)) → AreTiles blocks (said_tiles (block_names blocks) root)
tiles_are blocks root fine utf8 few known fits = tiles_good blocks root fine (record { utf8 = utf8; few = few }) known fits
