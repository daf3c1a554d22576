-- The order of sites has each site once, and each that can have a choice.
use Rattle.std.proofs.Common.{◌≡◌, ◌⊎◌, inl, inr, ◌+◌, ◌<◌, ◌≤◌, ◌==◌, ◌&&◌, if◌then◌else◌, ℕ, zero, suc, Bool, true, false, List, [], ◌∷◌, ◌++◌, Option, Some, None, IsSome, length, map, rules, refl, sym, ap, subst, ◌∙◌, arith, append-nil, append_assoc}
use Rattle.std.specs.Prelude.{slice_get}
use Rattle.std.specs.List.{flat_map}
use Rattle.std.specs.Option.{option_map, option_map_or, option_and_then}
use Rattle.std.proofs.lemmas.Option.{slice_get_within}
use Rattle.std.proofs.lemmas.List.{append_cancel_left}
use Rattle.std.proofs.lemmas.Bool.Decides.{nat_tests}
use Rattle.vtr_base.specs.Lists.{Has, up_from}
use Rattle.arch_types.specs.declared.block.PbType.{PbType}
use Rattle.arch_types.specs.declared.block.Kind.{Kind, Modes', out-Kind}
use Rattle.arch_types.specs.declared.block.Kind.TheViews.{the_lemmas}
use Rattle.arch_types.specs.declared.block.AtomKind.TheVariants.{InPad, OutPad, Lut, Latch, Cell}
use Rattle.arch_types.specs.Tree.{modes_of}
use Rattle.arch_types.specs.Address.{Address, Hop, at}
use Rattle.list_laws.specs.Orders.{Once}
use Rattle.list_laws.proofs.Members.{has_left, has_right, has_either, has_flat, from_flat, from_map, has_map, has_up}
use Rattle.list_laws.proofs.Onces.{once_append, once_flat, once_map, once_up}
use Rattle.pb_expand.specs.declared.number.Edge.{Edge}
use Rattle.pb_expand.specs.declared.number.EdgeIx.{EdgeIx}
use Rattle.pb_expand.specs.declared.number.PinIx.{PinIx}
use Rattle.pb_expand.specs.declared.number.Step.{Step}
use Rattle.pb_expand.specs.declared.number.PbKind.{PbKind}
use Rattle.pb_expand.specs.declared.number.PbKind.TheVariants as kinds
use Rattle.pb_expand.specs.Graph.{Graph, LeadsTo, hop_of, block_at, mode_at, kind_of, into_from, pb_ix}
use Rattle.pb_expand.specs.Expansion.{IsExpansion}
use Rattle.prog_map.specs.declared.choice.LSite.{LSite}
use Rattle.prog_map.specs.declared.choice.LSite.TheVariants as site
use Rattle.prog_map.specs.Leaves.{kind_at, HasModes}
use Rattle.prog_map.specs.Groups.{places_from}
use Rattle.prog_map.specs.Order.{is_step, hangs, kids, starts_at, is_first, opens, first_edges, end_site, own_sites, count_of, HasParent}
use Rattle.prog_map.specs.Levels.{mode_sites, sites_under, level_order}
use Rattle.prog_map.proofs.Climbs.{some_injective}
use Rattle.prog_map.proofs.Hanging.{step_is, is_step_there, is_itself}
use Rattle.prog_map.proofs.Places.{IsPlace, place_is, is_place}
use Rattle.prog_map.proofs.Instances.{mode_is_there, mode_there}

pub once_places : {X : Type 0} (p : ℕ → X → Bool) (n : ℕ) (xs : List X) → Once (places_from p n xs)
once_places p n [] = tt
once_places p n (x ∷ xs) = by (p n x) (once_places p (n + 1) xs)
  where
    by : (b : Bool) → Once (places_from p (n + 1) xs) → Once (if b then n ∷ places_from p (n + 1) xs else places_from p (n + 1) xs)
    by true rest = (λ h. let r = place_is p (n + 1) xs n h in absurd (omega (arith, r.number)), rest)
    by false rest = rest

-- the first edge into a pin in a mode is one of this instance
pub record FirstInto (g : Graph) (pin mode n : ℕ) : Type 0 where
  pub number : ℕ
  pub edge : Edge
  pub there : slice_get g.edges number ≡ Some edge
  pub first : starts_at number (into_from 0 g.edges pin mode) ≡ true
  pub owned : edge.owner.0 ≡ n

-- the site is one of this instance
abbrev pub IsOf : Graph → LSite → ℕ → Type 0
IsOf g (site.Mode pb) n = pb.0 ≡ n
IsOf g (site.Pin pin mode) n = FirstInto g pin.0 mode n
IsOf g (site.Used pb) n = pb.0 ≡ n
IsOf g (site.Lut pb) n = pb.0 ≡ n

one_start : (xs : List EdgeIx) (a b : ℕ) → starts_at a xs ≡ true → starts_at b xs ≡ true → a ≡ b
one_start [] a b e f = absurd (cc)
one_start (x ∷ xs) a b e f = let p : x.0 ≡ a = grind (arith, nat_tests) in let q : x.0 ≡ b = grind (arith, nat_tests) in sym p ∙ q

one_owner : (g : Graph) (s : LSite) (n m : ℕ) → IsOf g s n → IsOf g s m → n ≡ m
one_owner g (site.Mode pb) n m a b = sym a ∙ b
one_owner g (site.Pin pin mode) n m a b =
    let same : a.number ≡ b.number = one_start (into_from 0 g.edges pin.0 mode) a.number b.number a.first b.first in
    let edges : a.edge ≡ b.edge = some_injective (sym a.there ∙ ap (λ k. slice_get g.edges k) same ∙ b.there) in
    sym a.owned ∙ ap (λ e. e.owner.0) edges ∙ b.owned
one_owner g (site.Used pb) n m a b = sym a ∙ b
one_owner g (site.Lut pb) n m a b = sym a ∙ b

-- the site is one of an instance at this address, or below it
pub record IsUnder (g : Graph) (above : Address) (s : LSite) : Type 0 where
  pub number : ℕ
  pub of : IsOf g s number
  pub hops : Address
  pub there : slice_get g.instances number ≡ Some (above ++ hops)

both_true : (a b : Bool) → (a && b) ≡ true → (a ≡ true) × (b ≡ true)
both_true true true e = (refl, refl)
both_true true false e = cc
both_true false b e = cc

-- an edge that opens a site in a mode of an instance
pub record Opens (g : Graph) (pb mode e : ℕ) : Type 0 where
  pub edge : Edge
  pub there : slice_get g.edges e ≡ Some edge
  pub into : FirstInto g edge.dst.0 mode pb
  pub number : into.number ≡ e
  pub in_mode : edge.mode ≡ mode
  pub site_is : end_site g mode e ≡ site.Pin edge.dst mode

pub opens_is : (g : Graph) (pb mode e : ℕ) → Has (first_edges g pb mode) e → Opens g pb mode e
opens_is g pb mode e has =
    let p : IsPlace (opens g pb mode) 0 g.edges e = place_is (opens g pb mode) 0 g.edges e has in
    let place : p.place ≡ e = omega (arith, p.number) in
    let there : slice_get g.edges e ≡ Some p.is = ap (λ k. slice_get g.edges k) (sym place) ∙ p.there in
    let tests = both_true ((p.is.owner.0 == pb) && (p.is.mode == mode)) (is_first g e p.is) p.passes in
    let two = both_true (p.is.owner.0 == pb) (p.is.mode == mode) tests.0 in
    let owner : p.is.owner.0 ≡ pb = equal p.is.owner.0 pb two.0 in
    let in_mode : p.is.mode ≡ mode = equal p.is.mode mode two.1 in
    record {
      edge = p.is;
      there = there;
      into = record {
        number = e;
        edge = p.is;
        there = there;
        first = ap (λ m. starts_at e (into_from 0 g.edges p.is.dst.0 m)) (sym in_mode) ∙ tests.1;
        owned = owner;
      };
      number = refl;
      in_mode = in_mode;
      site_is = ap (λ o. option_map_or (λ (edge : Edge). site.Pin edge.dst mode) o (site.Pin (record { 0 = 0 }) mode)) there;
    }
  where
    equal : (a b : ℕ) → (a == b) ≡ true → a ≡ b
    equal a b t = grind (arith, nat_tests)

-- where a site in a mode of an instance comes from: it is a pin in that mode, or stands below
abbrev pub InMode : Graph → ℕ → Address → ℕ → LSite → Type 0
InMode g pb above mode s =
    ((pin : PinIx) × (s ≡ site.Pin pin mode) × IsOf g s pb) ⊎ ((hop : Hop) × (hop.mode ≡ mode) × IsUnder g (above ++ hop ∷ []) s)

-- what hangs on an instance by a mode
pub record IsKid (g : Graph) (above : Address) (mode kid : ℕ) : Type 0 where
  pub hop : Hop
  pub in_mode : hop.mode ≡ mode
  pub there : slice_get g.instances kid ≡ Some (above ++ hop ∷ [])

pub kid_is : (g : Graph) (pb mode kid : ℕ) (above : Address) → slice_get g.instances pb ≡ Some above → Has (kids g pb mode) kid → IsKid g above mode kid
kid_is g pb mode kid above at has =
    let p : IsPlace (λ n address. hangs g pb mode address) 0 g.instances kid = place_is (λ n address. hangs g pb mode address) 0 g.instances kid has in
    let place : p.place ≡ kid = omega (arith, p.number) in
    let test : is_step above mode p.is ≡ true = sym (ap (λ o. option_map_or (λ a. is_step a mode p.is) o false) at) ∙ p.passes in
    let st = step_is above mode p.is test in
    record { hop = st.hop; in_mode = st.in_mode; there = ap (λ k. slice_get g.instances k) (sym place) ∙ p.there ∙ ap Some st.is }

module _ (g : Graph) (law : IsExpansion g) where
  -- an instance doesn't stand below itself
  pub not_below : (pb : ℕ) (above : Address) (hop : Hop) (s : LSite) → slice_get g.instances pb ≡ Some above → IsOf g s pb → IsUnder g (above ++ hop ∷ []) s → ⊥
  not_below pb above hop s at of u =
      let same : pb ≡ u.number = one_owner g s pb u.number of u.of in
      let addresses : above ≡ (above ++ hop ∷ []) ++ u.hops = some_injective (sym at ∙ ap (λ k. slice_get g.instances k) same ∙ u.there) in
      let cut : [] ≡ hop ∷ u.hops = append_cancel_left above [] (hop ∷ u.hops) (append-nil above ∙ addresses ∙ append_assoc above (hop ∷ []) u.hops) in
      cc

  pub same_hop_below : (above : Address) (h k : Hop) (s : LSite) → IsUnder g (above ++ h ∷ []) s → IsUnder g (above ++ k ∷ []) s → h ≡ k
  same_hop_below above h k s u v =
      let same : u.number ≡ v.number = one_owner g s u.number v.number u.of v.of in
      let addresses : (above ++ h ∷ []) ++ u.hops ≡ (above ++ k ∷ []) ++ v.hops =
      some_injective (sym u.there ∙ ap (λ n. slice_get g.instances n) same ∙ v.there) in
      let cut : h ∷ u.hops ≡ k ∷ v.hops =
      append_cancel_left above (h ∷ u.hops) (k ∷ v.hops)
      (sym (append_assoc above (h ∷ []) u.hops) ∙ addresses ∙ append_assoc above (k ∷ []) v.hops) in
      cc

  pub own_of : (pb : ℕ) (k : Option PbKind) (s : LSite) → Has (own_sites pb k) s → IsOf g s pb
  own_of pb None s h = absurd h
  own_of pb (Some (kinds.Modes count)) s (inl e) = subst (λ x. IsOf g x pb) (sym e) refl
  own_of pb (Some (kinds.Modes count)) s (inr h) = absurd h
  own_of pb (Some (kinds.Leaf Lut)) s (inl e) = subst (λ x. IsOf g x pb) (sym e) refl
  own_of pb (Some (kinds.Leaf Lut)) s (inr (inl e)) = subst (λ x. IsOf g x pb) (sym e) refl
  own_of pb (Some (kinds.Leaf Lut)) s (inr (inr h)) = absurd h
  own_of pb (Some (kinds.Leaf InPad)) s (inl e) = subst (λ x. IsOf g x pb) (sym e) refl
  own_of pb (Some (kinds.Leaf InPad)) s (inr h) = absurd h
  own_of pb (Some (kinds.Leaf OutPad)) s (inl e) = subst (λ x. IsOf g x pb) (sym e) refl
  own_of pb (Some (kinds.Leaf OutPad)) s (inr h) = absurd h
  own_of pb (Some (kinds.Leaf Latch)) s (inl e) = subst (λ x. IsOf g x pb) (sym e) refl
  own_of pb (Some (kinds.Leaf Latch)) s (inr h) = absurd h
  own_of pb (Some (kinds.Leaf (Cell model))) s (inl e) = subst (λ x. IsOf g x pb) (sym e) refl
  own_of pb (Some (kinds.Leaf (Cell model))) s (inr h) = absurd h

  own_no_pin : (pb : ℕ) (k : Option PbKind) (pin : PinIx) (mode : ℕ) → Has (own_sites pb k) (site.Pin pin mode) → ⊥
  own_no_pin pb None pin mode h = absurd h
  own_no_pin pb (Some (kinds.Modes count)) pin mode (inl e) = cc
  own_no_pin pb (Some (kinds.Modes count)) pin mode (inr h) = absurd h
  own_no_pin pb (Some (kinds.Leaf Lut)) pin mode (inl e) = cc
  own_no_pin pb (Some (kinds.Leaf Lut)) pin mode (inr (inl e)) = cc
  own_no_pin pb (Some (kinds.Leaf Lut)) pin mode (inr (inr h)) = absurd h
  own_no_pin pb (Some (kinds.Leaf InPad)) pin mode (inl e) = cc
  own_no_pin pb (Some (kinds.Leaf InPad)) pin mode (inr h) = absurd h
  own_no_pin pb (Some (kinds.Leaf OutPad)) pin mode (inl e) = cc
  own_no_pin pb (Some (kinds.Leaf OutPad)) pin mode (inr h) = absurd h
  own_no_pin pb (Some (kinds.Leaf Latch)) pin mode (inl e) = cc
  own_no_pin pb (Some (kinds.Leaf Latch)) pin mode (inr h) = absurd h
  own_no_pin pb (Some (kinds.Leaf (Cell model))) pin mode (inl e) = cc
  own_no_pin pb (Some (kinds.Leaf (Cell model))) pin mode (inr h) = absurd h

  pub own_once : (pb : ℕ) (k : Option PbKind) → Once (own_sites pb k)
  own_once pb None = tt
  own_once pb (Some (kinds.Modes count)) = (λ h. h, tt)
  own_once pb (Some (kinds.Leaf Lut)) = (λ h. used_lut h, (λ h. h, tt))
    where
      used_lut : Has (site.Lut (pb_ix pb) ∷ []) (site.Used (pb_ix pb)) → ⊥
      used_lut (inl e) = cc
      used_lut (inr h) = h
  own_once pb (Some (kinds.Leaf InPad)) = (λ h. h, tt)
  own_once pb (Some (kinds.Leaf OutPad)) = (λ h. h, tt)
  own_once pb (Some (kinds.Leaf Latch)) = (λ h. h, tt)
  own_once pb (Some (kinds.Leaf (Cell model))) = (λ h. h, tt)

  -- where a site of a mode comes from, where those of the instances in it stand below them
  pub in_mode : (under : ℕ → List LSite) →
      ((kid : ℕ) (address : Address) (s : LSite) → slice_get g.instances kid ≡ Some address → Has (under kid) s → IsUnder g address s) →
      (pb mode : ℕ) (above : Address) (s : LSite) → slice_get g.instances pb ≡ Some above → Has (mode_sites g under pb mode) s → InMode g pb above mode s
  in_mode under below pb mode above s at has =
      elim (has_either (map (end_site g mode) (first_edges g pb mode)) (flat_map under (kids g pb mode)) s has) [
        | inl pins ↦
            let m = from_map (end_site g mode) (first_edges g pb mode) s pins in
            let o = opens_is g pb mode m.item m.has in
            let is : s ≡ site.Pin o.edge.dst mode = m.is ∙ o.site_is in
            inl (o.edge.dst, is, subst (λ x. IsOf g x pb) (sym is) o.into)
        | inr later ↦
            let f = from_flat under (kids g pb mode) s later in
            let k = kid_is g pb mode f.item above at f.has in
            inr (k.hop, k.in_mode, below f.item (above ++ k.hop ∷ []) s k.there f.within)
      ]

  pub under_at : (levels pb : ℕ) (above : Address) (s : LSite) → slice_get g.instances pb ≡ Some above → Has (sites_under g levels pb) s → IsUnder g above s
  under_at zero pb above s at has = absurd has
  under_at (suc levels) pb above s at has =
      by (λ kid address q there h. under_at levels kid address q there h)
      (has_either (own_sites pb (kind_at g pb)) (flat_map (λ mode. mode_sites g (λ kid. sites_under g levels kid) pb mode) (up_from 0 (count_of (kind_at g pb)))) s has)
    where
      widen : (hop : Hop) → IsUnder g (above ++ hop ∷ []) s → IsUnder g above s
      widen hop u = record { number = u.number; of = u.of; hops = hop ∷ u.hops; there = u.there ∙ ap Some (append_assoc above (hop ∷ []) u.hops) }

      by : ((kid : ℕ) (address : Address) (q : LSite) → slice_get g.instances kid ≡ Some address → Has (sites_under g levels kid) q → IsUnder g address q) →
          Has (own_sites pb (kind_at g pb)) s ⊎ Has (flat_map (λ mode. mode_sites g (λ kid. sites_under g levels kid) pb mode) (up_from 0 (count_of (kind_at g pb)))) s →
          IsUnder g above s
      by below (inl own) = record { number = pb; of = own_of pb (kind_at g pb) s own; hops = []; there = at ∙ ap Some (sym (append-nil above)) }
      by below (inr modes) =
          let f = from_flat (λ mode. mode_sites g (λ kid. sites_under g levels kid) pb mode) (up_from 0 (count_of (kind_at g pb))) s modes in
          elim (in_mode (λ kid. sites_under g levels kid) below pb f.item above s at f.within) [
            | inl pin ↦ record { number = pb; of = pin.2; hops = []; there = at ∙ ap Some (sym (append-nil above)) }
            | inr kid ↦ widen kid.0 kid.2
          ]

  apart_modes : (pb : ℕ) (above : Address) (x z : ℕ) (s : LSite) → slice_get g.instances pb ≡ Some above → InMode g pb above x s → InMode g pb above z s → x ≡ z
  apart_modes pb above x z s at (inl p) (inl q) = let same : site.Pin p.0 x ≡ site.Pin q.0 z = sym p.1 ∙ q.1 in cc
  apart_modes pb above x z s at (inl p) (inr q) = absurd (not_below pb above q.0 s at p.2 q.2)
  apart_modes pb above x z s at (inr p) (inl q) = absurd (not_below pb above p.0 s at q.2 p.2)
  apart_modes pb above x z s at (inr p) (inr q) = sym p.1 ∙ ap (λ h. h.mode) (same_hop_below above p.0 q.0 s p.2 q.2) ∙ q.1

  -- the sites of a mode stand in it once
  once_mode : (under : ℕ → List LSite) →
      ((kid : ℕ) (address : Address) (s : LSite) → slice_get g.instances kid ≡ Some address → Has (under kid) s → IsUnder g address s) →
      (pb mode : ℕ) (above : Address) → slice_get g.instances pb ≡ Some above → ((kid : ℕ) → Has (kids g pb mode) kid → Once (under kid)) → Once (mode_sites g under pb mode)
  once_mode under below pb mode above at each =
      once_append (map (end_site g mode) (first_edges g pb mode)) (flat_map under (kids g pb mode))
      (once_map (end_site g mode) (first_edges g pb mode) (once_places (opens g pb mode) 0 g.edges) one_edge)
      (once_flat under (kids g pb mode) (once_places (λ n address. hangs g pb mode address) 0 g.instances) each one_kid) apart
    where
      one_edge : (e f : ℕ) → Has (first_edges g pb mode) e → Has (first_edges g pb mode) f → end_site g mode e ≡ end_site g mode f → e ≡ f
      one_edge e f in_e in_f same =
          let p = opens_is g pb mode e in_e in
          let q = opens_is g pb mode f in_f in
          let sites : site.Pin p.edge.dst mode ≡ site.Pin q.edge.dst mode = sym p.site_is ∙ same ∙ q.site_is in
          let pins : p.edge.dst ≡ q.edge.dst = cc in
          let number : p.into.number ≡ q.into.number =
          one_start (into_from 0 g.edges p.edge.dst.0 mode) p.into.number q.into.number p.into.first
          (ap (λ (pin : PinIx). starts_at q.into.number (into_from 0 g.edges pin.0 mode)) pins ∙ q.into.first) in
          sym p.number ∙ number ∙ q.number

      one_kid : (x z : ℕ) (s : LSite) → Has (kids g pb mode) x → Has (kids g pb mode) z → Has (under x) s → Has (under z) s → x ≡ z
      one_kid x z s in_x in_z at_x at_z =
          let p = kid_is g pb mode x above at in_x in
          let q = kid_is g pb mode z above at in_z in
          let hops : p.hop ≡ q.hop =
          same_hop_below above p.hop q.hop s (below x (above ++ p.hop ∷ []) s p.there at_x) (below z (above ++ q.hop ∷ []) s q.there at_z) in
          law.numbering.once x z (above ++ p.hop ∷ []) p.there (q.there ∙ ap (λ h. Some (above ++ h ∷ [])) (sym hops))

      apart : (s : LSite) → Has (map (end_site g mode) (first_edges g pb mode)) s → Has (flat_map under (kids g pb mode)) s → ⊥
      apart s pins later =
          let m = from_map (end_site g mode) (first_edges g pb mode) s pins in
          let o = opens_is g pb mode m.item m.has in
          let f = from_flat under (kids g pb mode) s later in
          let k = kid_is g pb mode f.item above at f.has in
          not_below pb above k.hop s at (subst (λ x. IsOf g x pb) (sym (m.is ∙ o.site_is)) o.into) (below f.item (above ++ k.hop ∷ []) s k.there f.within)

  once_under : (levels pb : ℕ) (above : Address) → slice_get g.instances pb ≡ Some above → Once (sites_under g levels pb)
  once_under zero pb above at = tt
  once_under (suc levels) pb above at =
      once_append (own_sites pb (kind_at g pb)) (flat_map (λ mode. mode_sites g (λ kid. sites_under g levels kid) pb mode) (up_from 0 (count_of (kind_at g pb))))
      (own_once pb (kind_at g pb))
      (once_flat (λ mode. mode_sites g (λ kid. sites_under g levels kid) pb mode) (up_from 0 (count_of (kind_at g pb))) (once_up 0 (count_of (kind_at g pb)))
      (λ mode h. once_mode (λ kid. sites_under g levels kid) (λ kid address s there has. under_at levels kid address s there has) pb mode above at
      (λ kid has. let k = kid_is g pb mode kid above at has in once_under levels kid (above ++ k.hop ∷ []) k.there))
      (λ x z s in_x in_z at_x at_z.
      apart_modes pb above x z s at
      (in_mode (λ kid. sites_under g levels kid) (λ kid address q there has. under_at levels kid address q there has) pb x above s at at_x)
      (in_mode (λ kid. sites_under g levels kid) (λ kid address q there has. under_at levels kid address q there has) pb z above s at at_z)))
      (λ s own modes.
      let f = from_flat (λ mode. mode_sites g (λ kid. sites_under g levels kid) pb mode) (up_from 0 (count_of (kind_at g pb))) s modes in
      elim (in_mode (λ kid. sites_under g levels kid) (λ kid address q there has. under_at levels kid address q there has) pb f.item above s at f.within) [
        | inl pin ↦ own_no_pin pb (kind_at g pb) pin.0 f.item (subst (λ x. Has (own_sites pb (kind_at g pb)) x) pin.1 own)
        | inr kid ↦ not_below pb above kid.0 s at (own_of pb (kind_at g pb) s own) kid.2
      ])

  pub order_once : Once (level_order g)
  order_once = once_under (length g.instances) 0 [] (ap (λ is. slice_get is 0) law.instances)

-- the modes of an instance are counted
pub count_is : (k : Kind) → count_of (Some (kind_of k)) ≡ length (modes_of k)
unfolding out-Kind denote.Hole.Carrier.out
count_is (Modes' n modes) = search (rules, the_lemmas)
count_is _ = refl

pub mode_counted : (g : Graph) (pb mode : ℕ) → IsSome (mode_at g pb mode) → mode < count_of (kind_at g pb)
mode_counted g pb mode some =
    let m = mode_is_there g pb mode some in
    let block : block_at g pb ≡ Some m.block = ap (option_and_then (λ (a : Address). at g.root a)) m.is_instance ∙ m.is_block in
    let kind : kind_at g pb ≡ Some (kind_of m.block.kind) = ap (option_map (λ (b : PbType). kind_of b.kind)) block in
    let inside : mode < length (modes_of m.block.kind) = slice_get_within (modes_of m.block.kind) mode m.is m.there in
    omega (arith, inside, ap count_of kind, count_is m.block.kind)

pub counted_modes : (g : Graph) (pb mode : ℕ) → mode < count_of (kind_at g pb) → HasModes g pb
counted_modes g pb mode inside = by (kind_at g pb) refl inside
  where
    by : (o : Option PbKind) → kind_at g pb ≡ o → mode < count_of o → HasModes g pb
    by None e h = absurd (omega (arith, h))
    by (Some (kinds.Leaf atom)) e h = absurd (omega (arith, h))
    by (Some (kinds.Modes count)) e h = record { count = count; is = e }

-- the site stands below an instance, however many levels more are gone down
abbrev pub IsIn : Graph → LSite → ℕ → ℕ → Type 0
IsIn g s n levels = (more : ℕ) → levels ≤ more → Has (sites_under g more n) s

own_in : (g : Graph) (s : LSite) (n : ℕ) → Has (own_sites n (kind_at g n)) s → IsIn g s n 1
own_in g s n has zero low = absurd (omega (arith, low))
own_in g s n has (suc more) low =
    has_left (own_sites n (kind_at g n)) (flat_map (λ mode. mode_sites g (λ kid. sites_under g more kid) n mode) (up_from 0 (count_of (kind_at g n)))) s has

mode_in : (g : Graph) (s : LSite) (n mode more : ℕ) → mode < count_of (kind_at g n) → Has (mode_sites g (λ kid. sites_under g more kid) n mode) s →
    Has (sites_under g (suc more) n) s
mode_in g s n mode more counted has =
    has_right (own_sites n (kind_at g n)) (flat_map (λ m. mode_sites g (λ kid. sites_under g more kid) n m) (up_from 0 (count_of (kind_at g n)))) s
    (has_flat (λ m. mode_sites g (λ kid. sites_under g more kid) n m) (up_from 0 (count_of (kind_at g n))) mode s
    (has_up 0 (count_of (kind_at g n)) mode (omega arith) (omega (arith, counted))) has)

pin_in : (g : Graph) (pin : PinIx) (mode n : ℕ) → mode < count_of (kind_at g n) → (f : FirstInto g pin.0 mode n) → f.edge.dst ≡ pin → f.edge.mode ≡ mode →
    IsIn g (site.Pin pin mode) n 1
pin_in g pin mode n counted f ends in_mode zero low = absurd (omega (arith, low))
pin_in g pin mode n counted f ends in_mode (suc more) low =
    mode_in g (site.Pin pin mode) n mode more counted
    (has_left (map (end_site g mode) (first_edges g n mode)) (flat_map (λ kid. sites_under g more kid) (kids g n mode)) (site.Pin pin mode)
    (subst (λ s. Has (map (end_site g mode) (first_edges g n mode)) s) is (has_map (end_site g mode) (first_edges g n mode) f.number here)))
  where
    is : end_site g mode f.number ≡ site.Pin pin mode
    is = ap (λ o. option_map_or (λ (edge : Edge). site.Pin edge.dst mode) o (site.Pin (record { 0 = 0 }) mode)) f.there ∙ ap (λ p. site.Pin p mode) ends

    passes : opens g n mode f.number f.edge ≡ true
    passes =
        ap (λ k. ((k == n) && (f.edge.mode == mode)) && is_first g f.number f.edge) f.owned
        ∙ ap (λ k. ((n == n) && (k == mode)) && is_first g f.number f.edge) in_mode
        ∙ ap (λ b. (b && (mode == mode)) && is_first g f.number f.edge) (is_itself n)
        ∙ ap (λ b. b && is_first g f.number f.edge) (is_itself mode)
        ∙ ap (λ (p : PinIx). starts_at f.number (into_from 0 g.edges p.0 f.edge.mode)) ends
        ∙ ap (λ m. starts_at f.number (into_from 0 g.edges pin.0 m)) in_mode
        ∙ f.first

    here : Has (first_edges g n mode) f.number
    here = is_place (opens g n mode) 0 g.edges f.number f.number f.edge f.there (omega arith) passes

kid_in : (g : Graph) → IsExpansion g → (s : LSite) (step : Step) (n levels : ℕ) → LeadsTo g.instances step n → IsIn g s n levels → IsIn g s step.parent.0 (suc levels)
kid_in g law s step n levels to in_n zero low = absurd (omega (arith, low))
kid_in g law s step n levels to in_n (suc more) low =
    mode_in g s step.parent.0 step.mode more (mode_counted g step.parent.0 step.mode (mode_there g step n law to))
    (has_right (map (end_site g step.mode) (first_edges g step.parent.0 step.mode)) (flat_map (λ kid. sites_under g more kid) (kids g step.parent.0 step.mode)) s
    (has_flat (λ kid. sites_under g more kid) (kids g step.parent.0 step.mode) n s here (in_n more (omega (arith, low)))))
  where
    passes : hangs g step.parent.0 step.mode (to.parent ++ hop_of step ∷ []) ≡ true
    passes = ap (λ o. option_map_or (λ above. is_step above step.mode (to.parent ++ hop_of step ∷ [])) o false) to.is_parent ∙ is_step_there to.parent (hop_of step)

    here : Has (kids g step.parent.0 step.mode) n
    here = is_place (λ k address. hangs g step.parent.0 step.mode address) 0 g.instances n n (to.parent ++ hop_of step ∷ []) to.is_child (omega arith) passes

root_in : (g : Graph) → IsExpansion g → ((pb : ℕ) → pb < length g.instances → HasParent g pb) → (s : LSite) (bound n levels : ℕ) → n ≤ bound → n < length g.instances →
    IsIn g s n levels → (more : ℕ) → levels + n ≤ more → Has (sites_under g more 0) s
root_in g law parents s zero n levels low inside in_n more enough =
    let first : n ≡ 0 = omega arith in
    subst (λ k. Has (sites_under g more k) s) first (in_n more (omega (arith, enough)))
root_in g law parents s (suc bound) n levels low inside in_n more enough =
    elim (parents n inside) [
      | inl first ↦ subst (λ k. Has (sites_under g more k) s) first (in_n more (omega (arith, enough)))
      | inr up ↦
          let before = up.1.before in
          root_in g law parents s bound up.0.parent.0 (suc levels) (omega (arith, before, low)) (omega (arith, before, inside))
          (kid_in g law s up.0 n levels up.1 in_n) more (omega (arith, before, enough))
    ]

module _ (g : Graph) (law : IsExpansion g) (parents : (pb : ℕ) → pb < length g.instances → HasParent g pb) where
  pub own_ordered : (n : ℕ) (s : LSite) → n < length g.instances → Has (own_sites n (kind_at g n)) s → Has (level_order g) s
  own_ordered n s inside has = root_in g law parents s n n 1 (omega arith) inside (own_in g s n has) (length g.instances) (omega (arith, inside))

  pub pin_ordered : (pin : PinIx) (mode n : ℕ) → n < length g.instances → mode < count_of (kind_at g n) → (f : FirstInto g pin.0 mode n) → f.edge.dst ≡ pin → f.edge.mode ≡ mode →
      Has (level_order g) (site.Pin pin mode)
  pin_ordered pin mode n inside counted f ends in_mode =
      root_in g law parents (site.Pin pin mode) n n 1 (omega arith) inside (pin_in g pin mode n counted f ends in_mode) (length g.instances) (omega (arith, inside))
