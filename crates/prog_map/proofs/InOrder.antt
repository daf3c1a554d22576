-- In site order the sites under one choice stand together.
use Rattle.std.proofs.Common.{◌≡◌, ◌⊎◌, ◌+◌, inl, inr, ℕ, zero, suc, List, [], ◌∷◌, ◌++◌, Option, Some, None, map, refl, sym, ap, subst, ◌∙◌, append_assoc, length, length-append, arith}
use Rattle.std.specs.Prelude.{slice_get}
use Rattle.std.specs.List.{flat_map}
use Rattle.std.proofs.lemmas.List.{append_cancel_left}
use Rattle.vtr_base.specs.Lists.{Has, up_from}
use Rattle.arch_types.specs.declared.block.AtomKind.TheVariants.{InPad, OutPad, Lut, Latch, Cell}
use Rattle.arch_types.specs.Address.{Address, Hop}
use Rattle.list_laws.proofs.Members.{has_left, has_right, has_either}
use Rattle.pb_expand.specs.declared.number.PbKind.{PbKind}
use Rattle.pb_expand.specs.declared.number.PbKind.TheVariants as kinds
use Rattle.pb_expand.specs.Graph.{Graph, pb_ix}
use Rattle.pb_expand.specs.Expansion.{IsExpansion}
use Rattle.prog_map.specs.declared.choice.LSite.{LSite}
use Rattle.prog_map.specs.declared.choice.LSite.TheVariants as site
use Rattle.prog_map.specs.Leaves.{kind_at}
use Rattle.prog_map.specs.Order.{hangs, kids, first_edges, end_site, own_sites, count_of}
use Rattle.prog_map.specs.Levels.{mode_sites, sites_under, level_order}
use Rattle.prog_map.proofs.SiteOrder.{IsOf, InMode, kid_is, in_mode, under_at, once_places, opens_is}
use Rattle.list_laws.proofs.Onces.{once_up}
use Rattle.list_laws.proofs.Members.{from_map}
use Rattle.prog_map.specs.Above.{mode_at, LocalNeed, local_need, needs_from}
use Rattle.prog_map.specs.Above.{local_of, needs_of}
use Rattle.prog_map.proofs.Joined.{AreTogether}
use Rattle.prog_map.proofs.Joined.{together_all, together_append, together_flat}
use Rattle.prog_map.proofs.Belows.{needs_append, where_at, Low, site_at, under_split, under_all}

-- what all sites in a mode of an instance are under
abbrev InM : Address → ℕ → LocalNeed → Type 0
InM above mode n = Has (needs_from [] above ++ local_need (mode_at above) mode ∷ []) n

abbrev InP : Address → LocalNeed → Type 0
InP above n = Has (needs_from [] above) n

one_hop_more : (above : Address) (hop : Hop) (mode : ℕ) → hop.mode ≡ mode → needs_from [] (above ++ hop ∷ []) ≡ needs_from [] above ++ local_need (mode_at above) mode ∷ []
one_hop_more above hop mode is = needs_append [] above (hop ∷ []) ∙ ap (λ m. needs_from [] above ++ local_need (mode_at above) m ∷ []) is

module _ (g : Graph) (law : IsExpansion g) where
  -- a site in a mode is under the mode, and else under sites of one instance in it
  mode_split : (pb mode : ℕ) (above : Address) (s : LSite) (n : LocalNeed) → slice_get g.instances pb ≡ Some above → InMode g pb above mode s → Has (needs_of g s) n →
      InM above mode n ⊎ ((hop : Hop) × (hop.mode ≡ mode) × Low (above ++ hop ∷ []) n)
  mode_split pb mode above s n at (inl pin) has = inl (pinned (subst (λ x. Has (needs_of g x) n) pin.1 has))
    where
      there : where_at (local_of g (site.Pin pin.0 mode)) ≡ above
      there = site_at g (site.Pin pin.0 mode) pb above (subst (λ x. IsOf g x pb) pin.1 pin.2) at

      pinned : Has (needs_of g (site.Pin pin.0 mode)) n → InM above mode n
      pinned h = subst (λ a. Has (needs_from [] a ++ local_need (mode_at a) mode ∷ []) n) there h
  mode_split pb mode above s n at (inr kid) has = elim (under_split g (above ++ kid.0 ∷ []) s n kid.2 has) [
    | inl front ↦ inl (subst (λ l. Has l n) (one_hop_more above kid.0 mode kid.1) front)
    | inr low ↦ inr (kid.0, kid.1, low)
  ]

  mode_all : (pb mode : ℕ) (above : Address) (s : LSite) (n : LocalNeed) → slice_get g.instances pb ≡ Some above → InMode g pb above mode s → InM above mode n → Has (needs_of g s) n
  mode_all pb mode above s n at (inl pin) has = subst (λ x. Has (needs_of g x) n) (sym pin.1)
      (subst (λ a. Has (needs_from [] a ++ local_need (mode_at a) mode ∷ []) n) (sym (site_at g (site.Pin pin.0 mode) pb above (subst (λ x. IsOf g x pb) pin.1 pin.2) at)) has)
  mode_all pb mode above s n at (inr kid) has = under_all g (above ++ kid.0 ∷ []) s n kid.2 (subst (λ l. Has l n) (sym (one_hop_more above kid.0 mode kid.1)) has)

  same_low : (above : Address) (h k : Hop) (n : LocalNeed) → Low (above ++ h ∷ []) n → Low (above ++ k ∷ []) n → h ≡ k
  same_low above h k n p q =
      let cut : h ∷ p.0 ≡ k ∷ q.0 = append_cancel_left above (h ∷ p.0) (k ∷ q.0)
      (sym (append_assoc above (h ∷ []) p.0) ∙ (sym p.1 ∙ q.1) ∙ append_assoc above (k ∷ []) q.0) in
      cc

  -- the site of the instance itself isn't below it
  not_low : (above : Address) (hop : Hop) (mode : ℕ) (n : LocalNeed) → n ≡ local_need (mode_at above) mode → Low (above ++ hop ∷ []) n → ⊥
  not_low above hop mode n is low =
      let same : above ≡ (above ++ hop ∷ []) ++ low.0 = sym (ap (λ m. where_at m.at) is) ∙ low.1 in
      let longer : length above ≡ (length above + 1) + length low.0 = ap length same ∙ (length-append (above ++ hop ∷ []) low.0 ∙ ap (λ k. k + length low.0) (length-append above (hop ∷ []))) in
      absurd (omega (arith, longer))

  -- two modes share what is above the instance
  modes_apart : (above : Address) (a b : ℕ) (n : LocalNeed) → (a ≡ b → ⊥) →
      InM above a n ⊎ ((hop : Hop) × (hop.mode ≡ a) × Low (above ++ hop ∷ []) n) → InM above b n ⊎ ((hop : Hop) × (hop.mode ≡ b) × Low (above ++ hop ∷ []) n) → InP above n
  modes_apart above a b n ne p q = go (split a p) (split b q)
    where
      split : (m : ℕ) → InM above m n ⊎ ((hop : Hop) × (hop.mode ≡ m) × Low (above ++ hop ∷ []) n) →
          InP above n ⊎ ((n ≡ local_need (mode_at above) m) ⊎ ((hop : Hop) × (hop.mode ≡ m) × Low (above ++ hop ∷ []) n))
      split m (inr low) = inr (inr low)
      split m (inl has) = elim (has_either (needs_from [] above) (local_need (mode_at above) m ∷ []) n has) [
        | inl front ↦ inl front
        | inr last ↦ inr (inl (elim last [ inl is ↦ is | inr none ↦ absurd none ]))
      ]

      go : InP above n ⊎ ((n ≡ local_need (mode_at above) a) ⊎ ((hop : Hop) × (hop.mode ≡ a) × Low (above ++ hop ∷ []) n)) →
          InP above n ⊎ ((n ≡ local_need (mode_at above) b) ⊎ ((hop : Hop) × (hop.mode ≡ b) × Low (above ++ hop ∷ []) n)) → InP above n
      go (inl x) _ = x
      go (inr x) (inl y) = y
      go (inr (inl x)) (inr (inl y)) = absurd (ne (ap (λ m. m.held) (sym x ∙ y)))
      go (inr (inl x)) (inr (inr y)) = absurd (not_low above y.0 a n x y.2)
      go (inr (inr x)) (inr (inl y)) = absurd (not_low above x.0 b n y x.2)
      go (inr (inr x)) (inr (inr y)) = absurd (ne (sym x.1 ∙ ap (λ h. h.mode) (same_low above x.0 y.0 n x.2 y.2) ∙ y.1))

  -- the sites of a mode stand together, where those of each instance in it do
  mode_together : (levels pb mode : ℕ) (above : Address) → slice_get g.instances pb ≡ Some above →
      ((kid : ℕ) (address : Address) → slice_get g.instances kid ≡ Some address → AreTogether (needs_of g) (sites_under g levels kid)) →
      AreTogether (needs_of g) (mode_sites g (λ kid. sites_under g levels kid) pb mode)
  mode_together levels pb mode above at each =
      together_append (needs_of g) (InM above mode) (map (end_site g mode) (first_edges g pb mode)) (flat_map (λ kid. sites_under g levels kid) (kids g pb mode))
      (together_all (needs_of g) (InM above mode) (map (end_site g mode) (first_edges g pb mode)) (λ x n has up_x. pin_only x n has up_x)
      (λ x n has common. mode_all pb mode above x n at (inside x (has_left (map (end_site g mode) (first_edges g pb mode)) (flat_map (λ kid. sites_under g levels kid) (kids g pb mode)) x has)) common))
      (together_flat (needs_of g) (InM above mode) (λ kid. sites_under g levels kid) (kids g pb mode) (once_places (λ n address. hangs g pb mode address) 0 g.instances)
      (λ kid has. let k = kid_is g pb mode kid above at has in each kid (above ++ k.hop ∷ []) k.there)
      (λ kid x n has in_x common. let k = kid_is g pb mode kid above at has in
      under_all g (above ++ k.hop ∷ []) x n (under_at g law levels kid (above ++ k.hop ∷ []) x k.there in_x) (subst (λ l. Has l n) (sym (one_hop_more above k.hop mode k.in_mode)) common))
      kids_apart)
      (λ x z n in_x in_z up_x up_z. pin_only x n in_x up_x)
      (λ y n in_y common. mode_all pb mode above y n at (inside y (elim in_y [
        | inl h ↦ has_left (map (end_site g mode) (first_edges g pb mode)) (flat_map (λ kid. sites_under g levels kid) (kids g pb mode)) y h
        | inr h ↦ has_right (map (end_site g mode) (first_edges g pb mode)) (flat_map (λ kid. sites_under g levels kid) (kids g pb mode)) y h
      ])) common)
    where
      inside : (x : LSite) → Has (mode_sites g (λ kid. sites_under g levels kid) pb mode) x → InMode g pb above mode x
      inside x has = in_mode g law (λ kid. sites_under g levels kid) (λ kid address s there h. under_at g law levels kid address s there h) pb mode above x at has

      pin_only : (x : LSite) (n : LocalNeed) → Has (map (end_site g mode) (first_edges g pb mode)) x → Has (needs_of g x) n → InM above mode n
      pin_only x n has up_x =
          let m = from_map (end_site g mode) (first_edges g pb mode) x has in
          let o = opens_is g pb mode m.item m.has in
          let is : x ≡ site.Pin o.edge.dst mode = m.is ∙ o.site_is in
          let there : where_at (local_of g (site.Pin o.edge.dst mode)) ≡ above = site_at g (site.Pin o.edge.dst mode) pb above o.into at in
          subst (λ a. Has (needs_from [] a ++ local_need (mode_at a) mode ∷ []) n) there (subst (λ y. Has (needs_of g y) n) is up_x)

      kids_apart : (p q : ℕ) (x y : LSite) (n : LocalNeed) → Has (kids g pb mode) p → Has (kids g pb mode) q → (p ≡ q → ⊥) →
          Has (sites_under g levels p) x → Has (sites_under g levels q) y → Has (needs_of g x) n → Has (needs_of g y) n → InM above mode n
      kids_apart p q x y n in_p in_q ne in_x in_y up_x up_y =
          let j = kid_is g pb mode p above at in_p in
          let k = kid_is g pb mode q above at in_q in
          elim (under_split g (above ++ j.hop ∷ []) x n (under_at g law levels p (above ++ j.hop ∷ []) x j.there in_x) up_x) [
            | inl front ↦ subst (λ l. Has l n) (one_hop_more above j.hop mode j.in_mode) front
            | inr low ↦ elim (under_split g (above ++ k.hop ∷ []) y n (under_at g law levels q (above ++ k.hop ∷ []) y k.there in_y) up_y) [
              | inl front ↦ subst (λ l. Has l n) (one_hop_more above k.hop mode k.in_mode) front
              | inr also ↦ (let hops : j.hop ≡ k.hop = same_low above j.hop k.hop n low also in
                  absurd (ne (law.numbering.once p q (above ++ j.hop ∷ []) j.there (k.there ∙ ap (λ h. Some (above ++ h ∷ [])) (sym hops)))))
            ]
          ]

  own_together : (pb : ℕ) (k : Option PbKind) → AreTogether (needs_of g) (own_sites pb k)
  own_together pb None = tt
  own_together pb (Some (kinds.Modes count)) = (tt, tt)
  own_together pb (Some (kinds.Leaf Lut)) = ((λ z n has up_x up_z. absurd has, tt), (tt, tt))
  own_together pb (Some (kinds.Leaf InPad)) = (tt, tt)
  own_together pb (Some (kinds.Leaf OutPad)) = (tt, tt)
  own_together pb (Some (kinds.Leaf Latch)) = (tt, tt)
  own_together pb (Some (kinds.Leaf (Cell model))) = (tt, tt)

  -- an instance's own sites share with others what is above it; a leaf has no others
  own_share : (pb : ℕ) (above : Address) (under : ℕ → List LSite) (k : Option PbKind) (x z : LSite) (n : LocalNeed) → slice_get g.instances pb ≡ Some above →
      Has (own_sites pb k) x → Has (flat_map under (up_from 0 (count_of k))) z → Has (needs_of g x) n → InP above n
  own_share pb above under None x z n at own later up_x = absurd own
  own_share pb above under (Some (kinds.Modes count)) x z n at (inl is) later up_x =
      subst (λ a. Has (needs_from [] a) n) (site_at g (site.Mode (pb_ix pb)) pb above refl at) (subst (λ y. Has (needs_of g y) n) is up_x)
  own_share pb above under (Some (kinds.Modes count)) x z n at (inr none) later up_x = absurd none
  own_share pb above under (Some (kinds.Leaf atom)) x z n at own later up_x = absurd later

  pub together_under : (levels pb : ℕ) (above : Address) → slice_get g.instances pb ≡ Some above → AreTogether (needs_of g) (sites_under g levels pb)
  together_under zero pb above at = tt
  together_under (suc levels) pb above at =
      together_append (needs_of g) (InP above) (own_sites pb (kind_at g pb)) (flat_map (λ mode. mode_sites g (λ kid. sites_under g levels kid) pb mode) (up_from 0 (count_of (kind_at g pb))))
      (own_together pb (kind_at g pb))
      (together_flat (needs_of g) (InP above) (λ mode. mode_sites g (λ kid. sites_under g levels kid) pb mode) (up_from 0 (count_of (kind_at g pb))) (once_up 0 (count_of (kind_at g pb)))
      (λ mode has. mode_together levels pb mode above at (λ kid address there. together_under levels kid address there))
      (λ mode x n has in_x common. mode_all pb mode above x n at
      (in_mode g law (λ kid. sites_under g levels kid) (λ kid address s there h. under_at g law levels kid address s there h) pb mode above x at in_x)
      (has_left (needs_from [] above) (local_need (mode_at above) mode ∷ []) n common))
      (λ a b x y n in_a in_b ne in_x in_y up_x up_y. modes_apart above a b n ne
      (mode_split pb a above x n at (in_mode g law (λ kid. sites_under g levels kid) (λ kid address s there h. under_at g law levels kid address s there h) pb a above x at in_x) up_x)
      (mode_split pb b above y n at (in_mode g law (λ kid. sites_under g levels kid) (λ kid address s there h. under_at g law levels kid address s there h) pb b above y at in_y) up_y)))
      (λ x z n in_x in_z up_x up_z. own_share pb above (λ mode. mode_sites g (λ kid. sites_under g levels kid) pb mode) (kind_at g pb) x z n at in_x in_z up_x)
      (λ y n in_y common. under_all g above y n (under_at g law (suc levels) pb above y at (elim in_y [
        | inl h ↦ has_left (own_sites pb (kind_at g pb)) (flat_map (λ mode. mode_sites g (λ kid. sites_under g levels kid) pb mode) (up_from 0 (count_of (kind_at g pb)))) y h
        | inr h ↦ has_right (own_sites pb (kind_at g pb)) (flat_map (λ mode. mode_sites g (λ kid. sites_under g levels kid) pb mode) (up_from 0 (count_of (kind_at g pb)))) y h
      ])) common)

  pub order_together : AreTogether (needs_of g) (level_order g)
  order_together = together_under (length g.instances) 0 [] (ap (λ is. slice_get is 0) law.instances)
