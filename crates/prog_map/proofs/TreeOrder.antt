-- The order of sites by the tree of the block type is that by levels.
use mathlib.Core.Former.{Count}
use Rattle.std.proofs.Common.{◌≡◌, ◌+◌, ◌<◌, ◌≤◌, inl, inr, ℕ, zero, suc, List, [], ◌∷◌, ◌++◌, Some, map, length, rules, refl, sym, ap, ◌∙◌, subst, arith}
use Rattle.std.specs.Prelude.{slice_get}
use Rattle.std.specs.List.{flat_map}
use Rattle.std.specs.Option.{option_map, option_map_or, option_and_then}
use Rattle.std.proofs.lemmas.Option.{slice_get_within}
use Rattle.vtr_base.specs.Lists.{Has, up_from}
use Rattle.arch_types.specs.declared.block.PbType.{PbType}
use Rattle.arch_types.specs.declared.block.Kind.{Kind, Modes', Row_of-Mode, end_of-Mode, more_of-Mode, out-Kind, items-the_row-Mode}
use Rattle.arch_types.specs.declared.block.Kind.TheViews.{the_lemmas}
use Rattle.arch_types.specs.declared.block.Mode.{Mode, Mode', Row_of-PbType, end_of-PbType, more_of-PbType, out-Mode, items-the_row-PbType}
use Rattle.arch_types.specs.Tree.{modes_of, kids_of}
use Rattle.arch_types.specs.Address.{Address, Hop, at}
use Rattle.pb_expand.specs.declared.number.Step.{Step}
use Rattle.pb_expand.specs.Graph.{Graph, LeadsTo, hop_of, block_at, kind_of}
use Rattle.pb_expand.specs.Expansion.{IsExpansion}
use Rattle.pb_expand.proofs.Lists.{snoc_front, snoc_last, element}
use Rattle.prog_map.specs.declared.choice.LSite.{LSite}
use Rattle.prog_map.specs.Leaves.{kind_at}
use Rattle.prog_map.specs.Order.{last_child, child_of, kids, first_edges, end_site, own_sites, count_of, sites_below, sites_in_modes, sites_in_mode, sites_of_child, site_order, HasParent}
use Rattle.prog_map.specs.Levels.{mode_sites, sites_under, level_order}
use Rattle.prog_map.proofs.Climbs.{some_injective}
use Rattle.prog_map.proofs.Instances.{Down, down}
use Rattle.prog_map.proofs.SiteOrder.{count_is, IsKid, kid_is}

-- the same over lists of modes and children
abbrev modes_from : Graph → List Mode → ℕ → ℕ → List LSite
modes_from g [] pb mode = []
modes_from g (m ∷ modes) pb mode = sites_in_mode g m pb mode ++ modes_from g modes pb (mode + 1)

abbrev child_from : Graph → List PbType → ℕ → ℕ → List LSite
child_from g [] child pb = []
child_from g (block ∷ blocks) zero pb = own_sites pb (Some (kind_of block.kind)) ++ sites_below g block.kind pb
child_from g (block ∷ blocks) (suc child) pb = child_from g blocks child pb

in_modes_are : (n : Count) (g : Graph) (row : Row_of-Mode n) (pb mode : ℕ) → sites_in_modes g row pb mode ≡ modes_from g (items-the_row-Mode n row) pb mode
in_modes_are n g (more_of-Mode m rest) pb mode = ap (λ l. sites_in_mode g m pb mode ++ l) (in_modes_are _ g rest pb (mode + 1))
in_modes_are n g end_of-Mode pb mode = refl

of_child_are : (n : Count) (g : Graph) (row : Row_of-PbType n) (child pb : ℕ) → sites_of_child g row child pb ≡ child_from g (items-the_row-PbType n row) child pb
of_child_are n g (more_of-PbType name count ports kind metas rest) zero pb = refl
of_child_are n g (more_of-PbType name count ports kind metas rest) (suc child) pb = of_child_are _ g rest child pb
of_child_are n g end_of-PbType child pb = refl

below_is : (g : Graph) (kind : Kind) (pb : ℕ) → sites_below g kind pb ≡ modes_from g (modes_of kind) pb 0
unfolding out-Kind denote.Hole.Carrier.out
below_is g (Modes' n modes) pb = search (rules, the_lemmas, in_modes_are)
below_is g _ pb = refl

flat_same : {A X : Type 0} (f h : A → List X) (xs : List A) → ((x : A) → Has xs x → f x ≡ h x) → flat_map f xs ≡ flat_map h xs
flat_same f h [] same = refl
flat_same f h (x ∷ xs) same = ap (λ l. l ++ flat_map f xs) (same x (inl refl)) ∙ ap (λ l. h x ++ l) (flat_same f h xs (λ y has. same y (inr has)))

children_are : (n : Count) (g : Graph) (row : Row_of-PbType n) (numbers : List ℕ) →
    flat_map (λ kid. sites_of_child g row (child_of g kid) kid) numbers ≡ flat_map (λ kid. child_from g (items-the_row-PbType n row) (child_of g kid) kid) numbers
children_are n g row numbers =
    flat_same (λ kid. sites_of_child g row (child_of g kid) kid) (λ kid. child_from g (items-the_row-PbType n row) (child_of g kid) kid) numbers
    (λ kid has. of_child_are n g row (child_of g kid) kid)

in_mode_is : (g : Graph) (m : Mode) (pb mode : ℕ) →
    sites_in_mode g m pb mode ≡ map (end_site g mode) (first_edges g pb mode) ++ flat_map (λ kid. child_from g (kids_of m) (child_of g kid) kid) (kids g pb mode)
unfolding out-Mode denote.Hole.Carrier.out
in_mode_is g (Mode' name n children inters metas) pb mode =
    ap (λ l. map (end_site g mode) (first_edges g pb mode) ++ l)
    (children_are _ g children (kids g pb mode)
    ∙ ap (λ blocks. flat_map (λ kid. child_from g blocks (child_of g kid) kid) (kids g pb mode)) (sym (search (rules, the_lemmas))))

child_is : (g : Graph) (blocks : List PbType) (child pb : ℕ) (block : PbType) → slice_get blocks child ≡ Some block →
    child_from g blocks child pb ≡ own_sites pb (Some (kind_of block.kind)) ++ sites_below g block.kind pb
child_is g [] child pb block is = absurd (cc)
child_is g (b ∷ blocks) zero pb block is = ap (λ (x : PbType). own_sites pb (Some (kind_of x.kind)) ++ sites_below g x.kind pb) (some_injective is)
child_is g (b ∷ blocks) (suc child) pb block is = child_is g blocks child pb block is

modes_are : (g : Graph) (F : ℕ → List LSite) (modes : List Mode) (pb from : ℕ) →
    ((i : ℕ) (m : Mode) → slice_get modes i ≡ Some m → sites_in_mode g m pb (from + i) ≡ F (from + i)) → modes_from g modes pb from ≡ flat_map F (up_from from (length modes))
modes_are g F [] pb from each = refl
modes_are g F (m ∷ modes) pb from each =
    let here : from + 0 ≡ from = omega arith in
    ap (λ l. l ++ modes_from g modes pb (from + 1)) (subst (λ k. sites_in_mode g m pb k ≡ F k) here (each 0 m refl))
    ∙ ap (λ l. F from ++ l)
    (modes_are g F modes pb (from + 1)
    (λ i n is. let place : from + suc i ≡ (from + 1) + i = omega arith in subst (λ k. sites_in_mode g n pb k ≡ F k) place (each (suc i) n is)))

last_of : (front : Address) (hop : Hop) → last_child (front ++ hop ∷ []) ≡ hop.child
last_of [] hop = refl
last_of (a ∷ []) hop = refl
last_of (a ∷ b ∷ front) hop = last_of (b ∷ front) hop

module _ (g : Graph) (law : IsExpansion g) (parents : (pb : ℕ) → pb < length g.instances → HasParent g pb) where
  -- the instances below one by a mode
  kid_under : (levels pb mode : ℕ) (block : PbType) (m : Mode) → block_at g pb ≡ Some block → slice_get (modes_of block.kind) mode ≡ Some m → (above : Address) →
      slice_get g.instances pb ≡ Some above → length g.instances ≤ suc levels + pb →
      ((kid : ℕ) (b : PbType) → block_at g kid ≡ Some b → kid < length g.instances → length g.instances ≤ levels + kid →
      own_sites kid (Some (kind_of b.kind)) ++ sites_below g b.kind kid ≡ sites_under g levels kid) →
      (kid : ℕ) → Has (kids g pb mode) kid → child_from g (kids_of m) (child_of g kid) kid ≡ sites_under g levels kid
  kid_under levels pb mode block m is_block is_mode above is_pb enough rest kid has =
      let k : IsKid g above mode kid = kid_is g pb mode kid above is_pb has in
      let inside = slice_get_within g.instances kid (above ++ k.hop ∷ []) k.there in
      elim (parents kid inside) [
        | inl root ↦ absurd (not_root kid above k.hop root k.there)
        | inr up ↦ under kid k inside up.0 up.1
      ]
    where
      nil_snoc : (front : Address) (hop : Hop) → front ++ hop ∷ [] ≡ [] → ⊥
      nil_snoc [] hop e = cc
      nil_snoc (a ∷ front) hop e = cc

      not_root : (kid : ℕ) (front : Address) (hop : Hop) → kid ≡ 0 → slice_get g.instances kid ≡ Some (front ++ hop ∷ []) → ⊥
      not_root kid front hop root there =
          nil_snoc front hop (some_injective (sym there ∙ ap (λ n. slice_get g.instances n) root ∙ ap (λ is. slice_get is 0) law.instances))

      under : (kid : ℕ) (k : IsKid g above mode kid) → kid < length g.instances → (s : Step) → LeadsTo g.instances s kid →
          child_from g (kids_of m) (child_of g kid) kid ≡ sites_under g levels kid
      under kid k inside s to =
          let same : above ++ k.hop ∷ [] ≡ to.parent ++ hop_of s ∷ [] = some_injective (sym k.there ∙ to.is_child) in
          let fronts : above ≡ to.parent = snoc_front _ _ _ _ same in
          let hops : k.hop ≡ hop_of s = snoc_last _ _ _ _ same in
          let parent : pb ≡ s.parent.0 = law.numbering.once pb s.parent.0 to.parent (is_pb ∙ ap Some fronts) to.is_parent in
          let before : s.parent.0 < kid = to.before in
          let d : Down g s kid = down g s kid law to in
          let blocks : d.parent ≡ block = some_injective (sym d.is_parent ∙ ap (λ n. block_at g n) (sym parent) ∙ is_block) in
          let in_mode : s.mode ≡ mode = sym (ap (λ (h : Hop). h.mode) hops) ∙ k.in_mode in
          let modes : d.takes.mode ≡ m =
          some_injective (sym d.takes.is_mode ∙ ap (λ (b : PbType). slice_get (modes_of b.kind) s.mode) blocks ∙ ap (λ n. slice_get (modes_of block.kind) n) in_mode ∙ is_mode) in
          let child : child_of g kid ≡ s.child = ap (λ o. option_map_or last_child o 0) to.is_child ∙ last_of to.parent (hop_of s) in
          ap (λ n. child_from g (kids_of m) n kid) child
          ∙ child_is g (kids_of m) s.child kid d.takes.kid (ap (λ x. slice_get (kids_of x) s.child) (sym modes) ∙ d.takes.is_kid)
          ∙ rest kid d.takes.kid d.is_kid inside (omega (arith, enough, before, parent))

  under_same : (levels pb : ℕ) (block : PbType) → block_at g pb ≡ Some block → pb < length g.instances → length g.instances ≤ levels + pb →
      own_sites pb (Some (kind_of block.kind)) ++ sites_below g block.kind pb ≡ sites_under g levels pb
  under_same zero pb block is_block inside enough = absurd (omega (arith, inside, enough))
  under_same (suc levels) pb block is_block inside enough =
      let e = element g.instances pb inside in
      let kind : kind_at g pb ≡ Some (kind_of block.kind) = ap (option_map (λ (b : PbType). kind_of b.kind)) is_block in
      let F : ℕ → List LSite = λ mode. mode_sites g (λ kid. sites_under g levels kid) pb mode in
      ap (λ l. own_sites pb (Some (kind_of block.kind)) ++ l)
      (below_is g block.kind pb
      ∙ modes_are g F (modes_of block.kind) pb 0
      (λ i m is.
      in_mode_is g m pb (0 + i)
      ∙ ap (λ l. map (end_site g (0 + i)) (first_edges g pb (0 + i)) ++ l)
      (flat_same (λ kid. child_from g (kids_of m) (child_of g kid) kid) (λ kid. sites_under g levels kid) (kids g pb (0 + i))
      (kid_under levels pb (0 + i) block m is_block (let place : 0 + i ≡ i = omega arith in ap (λ n. slice_get (modes_of block.kind) n) place ∙ is) e.0 e.1 enough (λ kid b at_kid low more. under_same levels kid b at_kid low more))))
      ∙ ap (λ n. flat_map F (up_from 0 n)) (sym (count_is block.kind)))
      ∙ ap (λ o. own_sites pb o ++ flat_map F (up_from 0 (count_of o))) (sym kind)

  pub order_is : site_order g ≡ level_order g
  order_is =
      let root : slice_get g.instances 0 ≡ Some [] = ap (λ is. slice_get is 0) law.instances in
      under_same (length g.instances) 0 g.root (ap (option_and_then (λ a. at g.root a)) root) (slice_get_within g.instances 0 [] root) (omega arith)
