-- What a net costs where its blocks stand elsewhere.
use Rattle.std.proofs.Common.{◌≡◌, ◌≢◌, ◌⊎◌, ◌<◌, ◌≤◌, ◌+◌, ◌-◌, ℕ, true, false, List, [], map, length, get_or, set, arith, ap, ◌∙◌, sym, subst, inl, inr, refl}
use Rattle.std.specs.List.{Contains, swap}
use Rattle.std.proofs.lemmas.Bool.{cases_eq}
use Rattle.std.proofs.lemmas.List.{get_or-set_other, get_or-set_same}
use Rattle.std.proofs.lemmas.List.Edits.{swapped_from_swap}
use Rattle.anneal_placer.specs.declared.rect.Rect.{Rect}
use Rattle.anneal_placer.specs.declared.task.SiteAt.{SiteAt}
use Rattle.anneal_placer.specs.Cost.{column, row, net_cost, site_at, span}
use Rattle.anneal_placer.specs.Rects.{IsRange, IsRectOf, away, half_perimeter, holds, without}
use Rattle.anneal_placer.proofs.Members.{from_map, from_without, held, in_map, in_without, not_held}
use Rattle.anneal_placer.proofs.Spans.{alone, reach, span_is, within}

-- what a net costs by its rectangle
pub cost_of_rect : (sites : List SiteAt) (places net : List ℕ) (rect : Rect) → IsRectOf sites places net rect → half_perimeter rect ≡ net_cost sites places net
cost_of_rect sites places net rect b =
    let xs = span_is (map (column sites places) net) rect.columns.low rect.columns.high b.columns in
    let ys = span_is (map (row sites places) net) rect.rows.low rect.rows.high b.rows in
    omega (arith, xs, ys)

-- where each value along the net is one that was there
along : (f g : ℕ → ℕ) (net : List ℕ) → ((x : ℕ) → Contains net x → (y : ℕ) × Contains net y × (f y ≡ g x)) → span (map g net) ≤ span (map f net)
along f g net was = within (map g net) (map f net) (λ value there. there_too value (from_map g net value there))
  where
    there_too : (value : ℕ) → (x : ℕ) × Contains net x × (g x ≡ value) → Contains (map f net) value
    there_too value (x, inside, is) = let old = was x inside in in_map f net old.0 value old.1 (old.2 ∙ is)

no_dearer : (sites : List SiteAt) (old new net : List ℕ) → ((x : ℕ) → Contains net x → (y : ℕ) × Contains net y × (get_or old y 0 ≡ get_or new x 0)) →
    net_cost sites new net ≤ net_cost sites old net
no_dearer sites old new net was =
    let xs = along (column sites old) (column sites new) net (λ x inside. let w = was x inside in (w.0, w.1, ap (λ s. (site_at sites s).x) w.2)) in
    let ys = along (row sites old) (row sites new) net (λ x inside. let w = was x inside in (w.0, w.1, ap (λ s. (site_at sites s).y) w.2)) in
    omega (arith, xs, ys)

-- a net without the block that moved
pub unmoved : (sites : List SiteAt) (places : List ℕ) (block site : ℕ) (net : List ℕ) → holds block net ≡ false → net_cost sites (set places block site) net ≡ net_cost sites places net
unmoved sites places block site net absent =
    let same : (x : ℕ) → Contains net x → get_or (set places block site) x 0 ≡ get_or places x 0 = λ x inside. get_or-set_other places block x site 0 (not_held block net x absent inside) in
    let less = no_dearer sites places (set places block site) net (λ x inside. (x, inside, sym (same x inside))) in
    let more = no_dearer sites (set places block site) places net (λ x inside. (x, inside, same x inside)) in
    omega (arith, less, more)

-- where a net has both blocks, one of them on the other's site makes it no dearer
pub joined : (sites : List SiteAt) (places : List ℕ) (a b : ℕ) (net : List ℕ) → a < length places → holds a net ≡ true → holds b net ≡ true →
    net_cost sites (set places a (get_or places b 0)) net ≤ net_cost sites places net
joined sites places a b net inside has_a has_b = no_dearer sites places (set places a (get_or places b 0)) net was
  where
    was : (x : ℕ) → Contains net x → (y : ℕ) × Contains net y × (get_or places y 0 ≡ get_or (set places a (get_or places b 0)) x 0)
    was x there =
        elim (cases_eq x a) [
          | inl is ↦ (b, held b net has_b, sym (subst (λ z. get_or (set places a (get_or places b 0)) z 0 ≡ get_or places b 0) (sym is) (get_or-set_same places a (get_or places b 0) 0 inside)))
          | inr other ↦ (x, there, sym (get_or-set_other places a x (get_or places b 0) 0 other))
        ]

-- where each stands after an exchange
pub exchanged : (places : List ℕ) (a b : ℕ) → a < length places → b < length places →
    (get_or (swap places a b) a 0 ≡ get_or places b 0) × (get_or (swap places a b) b 0 ≡ get_or places a 0) ×
    ((x : ℕ) → x ≢ a → x ≢ b → get_or (swap places a b) x 0 ≡ get_or places x 0)
exchanged places a b a_in b_in = swapped_from_swap places (swap places a b) a b 0 a_in b_in refl

-- a net with both of two blocks costs the same where they are exchanged
pub both : (sites : List SiteAt) (places : List ℕ) (a b : ℕ) (net : List ℕ) → a < length places → b < length places → holds a net ≡ true → holds b net ≡ true →
    net_cost sites (swap places a b) net ≡ net_cost sites places net
both sites places a b net a_in b_in has_a has_b =
    let less = no_dearer sites places (swap places a b) net was in
    let more = no_dearer sites (swap places a b) places net is in
    omega (arith, less, more)
  where
    was : (x : ℕ) → Contains net x → (y : ℕ) × Contains net y × (get_or places y 0 ≡ get_or (swap places a b) x 0)
    was x there =
        let e = exchanged places a b a_in b_in in
        elim (cases_eq x a) [
          | inl at_a ↦ (b, held b net has_b, sym e.0 ∙ ap (λ z. get_or (swap places a b) z 0) (sym at_a))
          | inr not_a ↦
              elim (cases_eq x b) [
                | inl at_b ↦ (a, held a net has_a, sym e.1 ∙ ap (λ z. get_or (swap places a b) z 0) (sym at_b))
                | inr not_b ↦ (x, there, sym (e.2 x not_a not_b))
              ]
        ]

    is : (x : ℕ) → Contains net x → (y : ℕ) × Contains net y × (get_or (swap places a b) y 0 ≡ get_or places x 0)
    is x there =
        let e = exchanged places a b a_in b_in in
        elim (cases_eq x a) [
          | inl at_a ↦ (b, held b net has_b, e.1 ∙ ap (λ z. get_or places z 0) (sym at_a))
          | inr not_a ↦
              elim (cases_eq x b) [
                | inl at_b ↦ (a, held a net has_a, e.0 ∙ ap (λ z. get_or places z 0) (sym at_b))
                | inr not_b ↦ (x, there, e.2 x not_a not_b)
              ]
        ]

same_cost : (sites : List SiteAt) (old new net : List ℕ) → ((x : ℕ) → Contains net x → get_or old x 0 ≡ get_or new x 0) → net_cost sites new net ≡ net_cost sites old net
same_cost sites old new net same =
    let less = no_dearer sites old new net (λ x inside. (x, inside, same x inside)) in
    let more = no_dearer sites new old net (λ x inside. (x, inside, sym (same x inside))) in
    omega (arith, less, more)

-- a net with one of two blocks costs what it does where that one alone is moved
pub first_alone : (sites : List SiteAt) (places : List ℕ) (a b : ℕ) (net : List ℕ) → a < length places → b < length places → holds b net ≡ false →
    net_cost sites (swap places a b) net ≡ net_cost sites (set places a (get_or places b 0)) net
first_alone sites places a b net a_in b_in absent = same_cost sites (set places a (get_or places b 0)) (swap places a b) net same
  where
    same : (x : ℕ) → Contains net x → get_or (set places a (get_or places b 0)) x 0 ≡ get_or (swap places a b) x 0
    same x there =
        let e = exchanged places a b a_in b_in in
        let not_b : x ≢ b = not_held b net x absent there in
        elim (cases_eq x a) [
          | inl at_a ↦ subst (λ z. get_or (set places a (get_or places b 0)) z 0 ≡ get_or (swap places a b) z 0) (sym at_a) (get_or-set_same places a (get_or places b 0) 0 a_in ∙ sym e.0)
          | inr not_a ↦ get_or-set_other places a x (get_or places b 0) 0 not_a ∙ sym (e.2 x not_a not_b)
        ]

pub second_alone : (sites : List SiteAt) (places : List ℕ) (a b : ℕ) (net : List ℕ) → a < length places → b < length places → holds a net ≡ false →
    net_cost sites (swap places a b) net ≡ net_cost sites (set places b (get_or places a 0)) net
second_alone sites places a b net a_in b_in absent = same_cost sites (set places b (get_or places a 0)) (swap places a b) net same
  where
    same : (x : ℕ) → Contains net x → get_or (set places b (get_or places a 0)) x 0 ≡ get_or (swap places a b) x 0
    same x there =
        let e = exchanged places a b a_in b_in in
        let not_a : x ≢ a = not_held a net x absent there in
        elim (cases_eq x b) [
          | inl at_b ↦ subst (λ z. get_or (set places b (get_or places a 0)) z 0 ≡ get_or (swap places a b) z 0) (sym at_b) (get_or-set_same places b (get_or places a 0) 0 b_in ∙ sym e.1)
          | inr not_b ↦ get_or-set_other places b x (get_or places a 0) 0 not_b ∙ sym (e.2 x not_a not_b)
        ]

-- the block at a site makes its net dearer by how far the site is from the others
pub reached : (sites : List SiteAt) (places : List ℕ) (block site : ℕ) (net : List ℕ) (rect : Rect) → block < length places → holds block net ≡ true →
    IsRectOf sites places (without block net) rect → net_cost sites (set places block site) net ≡ net_cost sites places (without block net) + away (site_at sites site) rect
reached sites places block site net rect inside has b =
    let xs = one_way (λ s. (site_at sites s).x) rect.columns.low rect.columns.high b.columns in
    let ys = one_way (λ s. (site_at sites s).y) rect.rows.low rect.rows.high b.rows in
    omega (arith, xs, ys)
  where
    one_way : (at : ℕ → ℕ) (low high : ℕ) → IsRange (map (λ x. at (get_or places x 0)) (without block net)) low high →
        span (map (λ x. at (get_or (set places block site) x 0)) net) ≡ span (map (λ x. at (get_or places x 0)) (without block net)) + ((low - at site) + (at site - high))
    one_way at low high r = reach _ (map (λ x. at (get_or (set places block site) x 0)) net) low high (at site) r cases keeps there
      where
        here : get_or (set places block site) block 0 ≡ site
        here = get_or-set_same places block site 0 inside

        there : Contains (map (λ x. at (get_or (set places block site) x 0)) net) (at site)
        there = in_map (λ x. at (get_or (set places block site) x 0)) net block (at site) (held block net has) (ap at here)

        cases_at : (value : ℕ) → (x : ℕ) × Contains net x × (at (get_or (set places block site) x 0) ≡ value) →
            Contains (map (λ x. at (get_or places x 0)) (without block net)) value ⊎ (at site ≡ value)
        cases_at value (x, in_net, is) =
            elim (cases_eq x block) [
              | inl same ↦ inr (sym (ap at here) ∙ ap (λ z. at (get_or (set places block site) z 0)) (sym same) ∙ is)
              | inr other ↦ inl (in_map (λ z. at (get_or places z 0)) (without block net) x value (in_without block net x in_net other) (sym (ap at (get_or-set_other places block x site 0 other)) ∙ is))
            ]

        cases : (value : ℕ) → Contains (map (λ x. at (get_or (set places block site) x 0)) net) value → Contains (map (λ x. at (get_or places x 0)) (without block net)) value ⊎ (at site ≡ value)
        cases value inside_map = cases_at value (from_map (λ x. at (get_or (set places block site) x 0)) net value inside_map)

        keeps_at : (value : ℕ) → (x : ℕ) × Contains (without block net) x × (at (get_or places x 0) ≡ value) → Contains (map (λ x. at (get_or (set places block site) x 0)) net) value
        keeps_at value (x, in_others, is) =
            let kept = from_without block net x in_others in
            in_map (λ z. at (get_or (set places block site) z 0)) net x value kept.0 (ap at (get_or-set_other places block x site 0 kept.1) ∙ is)

        keeps : (value : ℕ) → Contains (map (λ x. at (get_or places x 0)) (without block net)) value → Contains (map (λ x. at (get_or (set places block site) x 0)) net) value
        keeps value inside_map = keeps_at value (from_map (λ x. at (get_or places x 0)) (without block net) value inside_map)

-- a net without other blocks costs nothing
pub lone : (sites : List SiteAt) (places : List ℕ) (block site : ℕ) (net : List ℕ) → block < length places → without block net ≡ [] →
    net_cost sites (set places block site) net ≡ net_cost sites places (without block net)
lone sites places block site net inside none =
    let xs = one_way (λ s. (site_at sites s).x) in
    let ys = one_way (λ s. (site_at sites s).y) in
    let nothing : net_cost sites places (without block net) ≡ 0 = rw none refl in
    omega (arith, xs, ys, nothing)
  where
    is_block : (x : ℕ) → Contains net x → x ≡ block
    is_block x there = elim (cases_eq x block) [
      | inl same ↦ same
      | inr other ↦ absurd (nothing_in (subst (λ zs. Contains zs x) none (in_without block net x there other)))
    ]
      where
        nothing_in : Contains [] x → ⊥
        nothing_in (k, below, _) = omega arith

    one_way : (at : ℕ → ℕ) → span (map (λ x. at (get_or (set places block site) x 0)) net) ≡ 0
    one_way at = alone (map (λ x. at (get_or (set places block site) x 0)) net) (at site)
        (λ value there. value_is value (from_map (λ x. at (get_or (set places block site) x 0)) net value there))
      where
        value_is : (value : ℕ) → (x : ℕ) × Contains net x × (at (get_or (set places block site) x 0) ≡ value) → at site ≡ value
        value_is value (x, in_net, is) =
            sym (ap at (get_or-set_same places block site 0 inside)) ∙ ap (λ z. at (get_or (set places block site) z 0)) (sym (is_block x in_net)) ∙ is
