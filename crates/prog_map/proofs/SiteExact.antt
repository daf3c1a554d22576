-- The order of sites has exactly the sites of the block type.
use Rattle.std.proofs.Common.{◌≡◌, inl, inr, ◌+◌, ◌<◌, ◌==◌, ◌&&◌, if◌then◌else◌, ℕ, zero, suc, Bool, true, false, List, [], ◌∷◌, Option, Some, None, IsSome, length, map, refl, sym, ap, subst, ◌∙◌, arith}
use Rattle.std.specs.Prelude.{◌↔◌, slice_get}
use Rattle.std.specs.List.{flat_map}
use Rattle.std.specs.Option.{option_map, option_and_then}
use Rattle.std.proofs.lemmas.Option.{slice_get_within}
use Rattle.std.proofs.lemmas.Bool.Decides.{nat_tests}
use Rattle.vtr_base.specs.Lists.{Has, up_from}
use Rattle.list_laws.proofs.Members.{has_at, has_either, from_map, from_flat}
use Rattle.arch_types.specs.declared.block.PbType.{PbType}
use Rattle.arch_types.specs.declared.block.AtomKind.{AtomKind}
use Rattle.arch_types.specs.declared.block.AtomKind.TheVariants as atom
use Rattle.arch_types.specs.Tree.{modes_of}
use Rattle.arch_types.specs.Address.{Address, at}
use Rattle.pb_expand.specs.declared.number.Edge.{Edge}
use Rattle.pb_expand.specs.declared.number.EdgeIx.{EdgeIx}
use Rattle.pb_expand.specs.declared.number.PbKind.{PbKind}
use Rattle.pb_expand.specs.declared.number.PbKind.TheVariants as kinds
use Rattle.pb_expand.specs.Graph.{Graph, block_at, mode_at, kind_of, into_from, pb_ix, pin_ix, edge_ix}
use Rattle.pb_expand.specs.Expansion.{IsExpansion, IsEdgeOf}
use Rattle.prog_map.specs.declared.choice.LSite.{LSite}
use Rattle.prog_map.specs.declared.choice.LSite.TheVariants as site
use Rattle.prog_map.specs.Leaves.{kind_at, HasModes, IsLeaf, IsLut}
use Rattle.prog_map.specs.Live.{IsSiteOf}
use Rattle.prog_map.specs.Order.{starts_at, kids, first_edges, end_site, own_sites, count_of, HasParent}
use Rattle.prog_map.specs.Levels.{mode_sites, sites_under, level_order}
use Rattle.prog_map.proofs.SiteOrder.{mode_counted, FirstInto, opens_is, own_ordered, pin_ordered}

kind_inside : (g : Graph) (n : ℕ) (k : PbKind) → kind_at g n ≡ Some k → n < length g.instances
kind_inside g n k is = by (slice_get g.instances n) refl is
  where
    by : (o : Option Address) → slice_get g.instances n ≡ o →
        option_map (λ (block : PbType). kind_of block.kind) (option_and_then (λ (a : Address). at g.root a) o) ≡ Some k → n < length g.instances
    by None e f = absurd (cc)
    by (Some a) e f = slice_get_within g.instances n a e

-- the first of the edges into a pin in a mode
pub record HeadIs (g : Graph) (pin mode : ℕ) (start : ℕ) (es : List Edge) (xs : List EdgeIx) : Type 0 where
  pub place : ℕ
  pub edge : Edge
  pub there : slice_get es place ≡ Some edge
  pub first : starts_at (start + place) xs ≡ true
  pub ends : edge.dst.0 ≡ pin
  pub in_mode : edge.mode ≡ mode

head_of : (g : Graph) (pin mode start : ℕ) (es : List Edge) (place : ℕ) (edge : Edge) → slice_get es place ≡ Some edge → edge.dst.0 ≡ pin → edge.mode ≡ mode →
    HeadIs g pin mode start es (into_from start es pin mode)
head_of g pin mode start [] place edge at ends in_mode = absurd (cc)
head_of g pin mode start (e ∷ es) zero edge at ends in_mode =
    let same : e ≡ edge = cc in
    here (e.dst.0 == pin) (e.mode == mode) (ap (λ (x : Edge). x.dst.0) same ∙ ends) (ap (λ (x : Edge). x.mode) same ∙ in_mode) refl refl
  where
    here : (a b : Bool) → e.dst.0 ≡ pin → e.mode ≡ mode → (e.dst.0 == pin) ≡ a → (e.mode == mode) ≡ b →
        HeadIs g pin mode start (e ∷ es) (if a && b then edge_ix start ∷ into_from (start + 1) es pin mode else into_from (start + 1) es pin mode)
    here true true p m t u = record {
      place = 0;
      edge = e;
      there = refl;
      first = grind (arith, nat_tests);
      ends = p;
      in_mode = m;
    }
    here true false p m t u = absurd (grind (arith, nat_tests))
    here false b p m t u = absurd (grind (arith, nat_tests))
head_of g pin mode start (e ∷ es) (suc place) edge at ends in_mode =
    by (e.dst.0 == pin) (e.mode == mode) refl refl (head_of g pin mode (start + 1) es place edge at ends in_mode)
  where
    by : (a b : Bool) → (e.dst.0 == pin) ≡ a → (e.mode == mode) ≡ b → HeadIs g pin mode (start + 1) es (into_from (start + 1) es pin mode) →
        HeadIs g pin mode start (e ∷ es) (if a && b then edge_ix start ∷ into_from (start + 1) es pin mode else into_from (start + 1) es pin mode)
    by true true t u rest = record {
      place = 0;
      edge = e;
      there = refl;
      first = grind (arith, nat_tests);
      ends = grind (arith, nat_tests);
      in_mode = grind (arith, nat_tests);
    }
    by true false t u rest = later rest
      where
        later : HeadIs g pin mode (start + 1) es (into_from (start + 1) es pin mode) → HeadIs g pin mode start (e ∷ es) (into_from (start + 1) es pin mode)
        later r = record {
          place = suc r.place;
          edge = r.edge;
          there = r.there;
          first = let same : start + suc r.place ≡ (start + 1) + r.place = omega arith in ap (λ k. starts_at k (into_from (start + 1) es pin mode)) same ∙ r.first;
          ends = r.ends;
          in_mode = r.in_mode;
        }
    by false b t u rest = record {
      place = suc rest.place;
      edge = rest.edge;
      there = rest.there;
      first = let same : start + suc rest.place ≡ (start + 1) + rest.place = omega arith in ap (λ k. starts_at k (into_from (start + 1) es pin mode)) same ∙ rest.first;
      ends = rest.ends;
      in_mode = rest.in_mode;
    }

own_mode : (g : Graph) → (pb : ℕ) → HasModes g pb → Has (own_sites pb (kind_at g pb)) (site.Mode (pb_ix pb))
own_mode g pb has = subst (λ o. Has (own_sites pb o) (site.Mode (pb_ix pb))) (sym has.is) (inl refl)

own_used : (g : Graph) → (pb : ℕ) → IsLeaf g pb → Has (own_sites pb (kind_at g pb)) (site.Used (pb_ix pb))
own_used g pb leaf = subst (λ o. Has (own_sites pb o) (site.Used (pb_ix pb))) (sym leaf.is) (by leaf.atom)
  where
    by : (a : AtomKind) → Has (own_sites pb (Some (kinds.Leaf a))) (site.Used (pb_ix pb))
    by atom.InPad = inl refl
    by atom.OutPad = inl refl
    by atom.Lut = inl refl
    by atom.Latch = inl refl
    by (atom.Cell model) = inl refl

own_lut : (g : Graph) → (pb : ℕ) → IsLut g pb → Has (own_sites pb (kind_at g pb)) (site.Lut (pb_ix pb))
own_lut g pb lut = subst (λ o. Has (own_sites pb o) (site.Lut (pb_ix pb))) (sym lut) (inr (inl refl))

pub edge_mode_there : (g : Graph) (number : ℕ) (edge : Edge) → IsExpansion g → slice_get g.edges number ≡ Some edge → IsSome (mode_at g edge.owner.0 edge.mode)
edge_mode_there g number edge law there =
    let e : IsEdgeOf g edge = law.has_edges.each edge (has_at g.edges number edge there) in
    let block : block_at g edge.owner.0 ≡ Some e.block = ap (option_and_then (λ (a : Address). at g.root a)) e.is_owner ∙ e.is_block in
    let is : mode_at g edge.owner.0 edge.mode ≡ Some e.mode = ap (option_and_then (λ (b : PbType). slice_get (modes_of b.kind) edge.mode)) block ∙ e.is_mode in
    subst (λ o. IsSome o) (sym is) refl

-- the sites of an instance itself are there
own_is : (g : Graph) (pb : ℕ) (k : Option PbKind) (s : LSite) → kind_at g pb ≡ k → Has (own_sites pb k) s → IsSiteOf g s
own_is g pb None s is h = absurd h
own_is g pb (Some (kinds.Modes count)) s is (inl e) = subst (IsSiteOf g) (sym e) (record { count = count; is = is })
own_is g pb (Some (kinds.Modes count)) s is (inr h) = absurd h
own_is g pb (Some (kinds.Leaf atom.Lut)) s is (inl e) = subst (IsSiteOf g) (sym e) (record { atom = atom.Lut; is = is })
own_is g pb (Some (kinds.Leaf atom.Lut)) s is (inr (inl e)) = subst (IsSiteOf g) (sym e) is
own_is g pb (Some (kinds.Leaf atom.Lut)) s is (inr (inr h)) = absurd h
own_is g pb (Some (kinds.Leaf atom.InPad)) s is (inl e) = subst (IsSiteOf g) (sym e) (record { atom = atom.InPad; is = is })
own_is g pb (Some (kinds.Leaf atom.InPad)) s is (inr h) = absurd h
own_is g pb (Some (kinds.Leaf atom.OutPad)) s is (inl e) = subst (IsSiteOf g) (sym e) (record { atom = atom.OutPad; is = is })
own_is g pb (Some (kinds.Leaf atom.OutPad)) s is (inr h) = absurd h
own_is g pb (Some (kinds.Leaf atom.Latch)) s is (inl e) = subst (IsSiteOf g) (sym e) (record { atom = atom.Latch; is = is })
own_is g pb (Some (kinds.Leaf atom.Latch)) s is (inr h) = absurd h
own_is g pb (Some (kinds.Leaf (atom.Cell model))) s is (inl e) = subst (IsSiteOf g) (sym e) (record { atom = atom.Cell model; is = is })
own_is g pb (Some (kinds.Leaf (atom.Cell model))) s is (inr h) = absurd h

-- what stands in the order is a site
under_is : (g : Graph) (levels pb : ℕ) (s : LSite) → Has (sites_under g levels pb) s → IsSiteOf g s
under_is g zero pb s has = absurd has
under_is g (suc levels) pb s has =
    elim (has_either (own_sites pb (kind_at g pb)) (flat_map (λ mode. mode_sites g (λ kid. sites_under g levels kid) pb mode) (up_from 0 (count_of (kind_at g pb)))) s has) [
      | inl own ↦ own_is g pb (kind_at g pb) s refl own
      | inr modes ↦
          let f = from_flat (λ mode. mode_sites g (λ kid. sites_under g levels kid) pb mode) (up_from 0 (count_of (kind_at g pb))) s modes in
          elim (has_either (map (end_site g f.item) (first_edges g pb f.item)) (flat_map (λ kid. sites_under g levels kid) (kids g pb f.item)) s f.within) [
            | inl pins ↦
                let m = from_map (end_site g f.item) (first_edges g pb f.item) s pins in
                let o = opens_is g pb f.item m.item m.has in
                subst (IsSiteOf g) (sym (m.is ∙ o.site_is)) (m.item, record { edge = o.edge; there = o.there; ends = refl; in_mode = o.in_mode })
            | inr later ↦ let k = from_flat (λ kid. sites_under g levels kid) (kids g pb f.item) s later in under_is g levels k.item s k.within
          ]
    ]

module _ (g : Graph) (law : IsExpansion g) (parents : (pb : ℕ) → pb < length g.instances → HasParent g pb) where
  all_there : (s : LSite) → IsSiteOf g s → Has (level_order g) s
  all_there (site.Mode pb) is = own_ordered g law parents pb.0 (site.Mode pb) (kind_inside g pb.0 (kinds.Modes is.count) is.is) (own_mode g pb.0 is)
  all_there (site.Pin pin mode) is =
      let into = is.1 in
      let h = head_of g pin.0 mode 0 g.edges is.0 into.edge into.there into.ends into.in_mode in
      let e : IsEdgeOf g h.edge = law.has_edges.each h.edge (has_at g.edges h.place h.edge h.there) in
      let first : FirstInto g pin.0 mode h.edge.owner.0 = record {
        number = h.place;
        edge = h.edge;
        there = h.there;
        first = let same : 0 + h.place ≡ h.place = omega arith in ap (λ k. starts_at k (into_from 0 g.edges pin.0 mode)) (sym same) ∙ h.first;
        owned = refl;
      } in
      let counted = mode_counted g h.edge.owner.0 h.edge.mode (edge_mode_there g h.place h.edge law h.there) in
      pin_ordered g law parents pin mode h.edge.owner.0 (slice_get_within g.instances h.edge.owner.0 e.address e.is_owner)
      (subst (λ m. m < count_of (kind_at g h.edge.owner.0)) h.in_mode counted) first (ap pin_ix h.ends) h.in_mode
  all_there (site.Used pb) is = own_ordered g law parents pb.0 (site.Used pb) (kind_inside g pb.0 (kinds.Leaf is.atom) is.is) (own_used g pb.0 is)
  all_there (site.Lut pb) is = own_ordered g law parents pb.0 (site.Lut pb) (kind_inside g pb.0 (kinds.Leaf atom.Lut) is) (own_lut g pb.0 is)

  pub order_exact : (s : LSite) → Has (level_order g) s ↔ IsSiteOf g s
  order_exact s = (under_is g (length g.instances) 0 s, all_there s)
