-- How near the sites of a row are, by their columns.
use Rattle.std.proofs.Common.{◌≡◌, ◌<◌, ◌≤◌, ◌+◌, ◌-◌, ℕ, min, List, [], ◌∷◌, ◌++◌, Option, Some, map, take, length, get_or, set, slice_get, arith, ap, ◌∙◌, sym, subst, refl}
use borrow.Author.Count.{below_more}
use Rattle.std.specs.Prelude.{option_map}
use Rattle.std.specs.List.{All, Contains, sum_by}
use Rattle.std.proofs.lemmas.List.{get_or_default, map_more}
use Rattle.std.proofs.lemmas.List.Elements.{All-push}
use Rattle.std.proofs.lemmas.List.Sums.{sum_by-cons}
use Rattle.std.proofs.lemmas.Option.{get_or_from_slice_get, slice_get-map, slice_get_within}
use Rattle.anneal_placer.specs.declared.draw.Draw.{Draw}
use Rattle.anneal_placer.specs.declared.grid.Spot.{Spot}
use Rattle.anneal_placer.specs.declared.pull.Pull.{Pull}
use Rattle.anneal_placer.specs.declared.rect.Rect.{Rect}
use Rattle.anneal_placer.specs.declared.task.AnnealTask.{AnnealTask}
use Rattle.anneal_placer.specs.declared.task.SiteAt.{SiteAt}
use Rattle.anneal_placer.specs.Cost.{site_at}
use Rattle.anneal_placer.specs.Grid.{IsGrid, IsSpot}
use Rattle.anneal_placer.specs.Rects.{away, column_away, row_away}
use Rattle.anneal_placer.specs.Search.{ArePulls, IsDraw, IsStuck, IsStuckAmong, IsStuckAt}
use Rattle.anneal_placer.specs.Task.{cost, nets_of}
use Rattle.anneal_placer.proofs.Steps.{moves_by}

-- a table of values, and a bound of them
pub table_more : (f : ℕ → ℕ) (xs done new : List ℕ) (k y : ℕ) → done ≡ map f (take k xs) → k < length xs → y ≡ f (get_or xs k 0) → new ≡ done ++ y ∷ [] → new ≡ map f (take (k + 1) xs)
table_more f xs done new k y so_far inside is pushed =
    pushed ∙ ap (λ l. l ++ y ∷ []) so_far ∙ ap (λ z. map f (take k xs) ++ z ∷ []) is ∙ sym (map_more f xs k 0 inside)

pub bound_more : (xs new : List ℕ) (bound next y : ℕ) → All (λ a. bound ≤ a) xs → next ≡ min bound y → new ≡ xs ++ y ∷ [] → All (λ a. next ≤ a) new
bound_more xs new bound next y so_far is pushed =
    subst (λ l. All (λ a. next ≤ a) l) (sym pushed)
    (All-push (λ a. next ≤ a) xs y (λ i d i_in. let above : bound ≤ get_or xs i d = so_far i d i_in in omega (arith, above, is)) (omega (arith, is)))

-- the distance of a site is that of its column and that of its row
sums : (a b c d e f g h i : ℕ) → a ≡ b + c → d ≡ e + f → g ≡ a + d → h ≡ b + e → i ≡ c + f → g ≡ h + i
sums a b c d e f g h i here rest whole first second = omega (arith, here, rest, whole, first, second)

split : (site : SiteAt) (rects : List Rect) → sum_by (away site) rects ≡ sum_by (column_away site.x) rects + sum_by (row_away site.y) rects
split site [] = refl
split site (r ∷ rs) =
    sums (away site r) (column_away site.x r) (row_away site.y r) (sum_by (away site) rs) (sum_by (column_away site.x) rs) (sum_by (row_away site.y) rs) _ _ _
    refl (split site rs) (sum_by-cons (away site) r rs) (sum_by-cons (column_away site.x) r rs) (sum_by-cons (row_away site.y) r rs)

module _ (task : AnnealTask) (places columns : List ℕ) (block y left : ℕ) (draw : Draw) (draws : IsDraw task places columns block draw) (left_is : left ≡ draw.pull.away - sum_by (row_away y) draw.pull.rects.items) where
  pub column_at : (spot : Spot) (d : ℕ) → IsSpot task.sites.items columns y spot →
      (spot.column < length draw.columns.items) × (get_or draw.columns.items spot.column d ≡ sum_by (column_away (site_at task.sites.items spot.site).x) draw.pull.rects.items)
  column_at spot d at =
      let f = λ (x : ℕ). sum_by (column_away x) draw.pull.rects.items in
      let there : slice_get draw.columns.items spot.column ≡ Some (f (site_at task.sites.items spot.site).x) =
      ap (λ l. slice_get l spot.column) draws.aways ∙ slice_get-map f columns spot.column ∙ ap (option_map f) at.column in
      (slice_get_within draw.columns.items spot.column _ there, get_or_from_slice_get draw.columns.items spot.column _ d there)

  law : (spot : Spot) (d : ℕ) → IsSpot task.sites.items columns y spot →
      cost task (set places block spot.site) + draw.pull.away ≡ cost task places + (get_or draw.columns.items spot.column d + sum_by (row_away y) draw.pull.rects.items)
  law spot d at =
      let site = site_at task.sites.items spot.site in
      let there : sum_by (away site) draw.pull.rects.items ≡ get_or draw.columns.items spot.column d + sum_by (row_away y) draw.pull.rects.items =
      split site draw.pull.rects.items ∙ ap (λ n. n + sum_by (row_away site.y) draw.pull.rects.items) (sym (column_at spot d at).1) ∙
      ap (λ r. get_or draw.columns.items spot.column d + sum_by (row_away r) draw.pull.rects.items) at.row in
      moves_by task.sites.items places (nets_of task) block spot.site draw.pull.away draw.pull.rects.items draws.pull ∙ ap (λ n. cost task places + n) there

  -- a nearer site makes the cost less by how much nearer it is
  pub gains_at : (spot : Spot) (away : ℕ) → IsSpot task.sites.items columns y spot → away ≡ get_or draw.columns.items spot.column away → away < left →
      cost task (set places block spot.site) + (left - away) ≡ cost task places
  gains_at spot away at read less = omega (arith, law spot away at, read, less, left_is)

  -- and no other does
  pub stays_at : (occupants : List (Option ℕ)) (spot : Spot) (away : ℕ) → IsSpot task.sites.items columns y spot → away ≡ get_or draw.columns.items spot.column away → (away < left → ⊥) →
      IsStuckAt task places occupants block spot.site
  stays_at occupants spot away at read far = λ fit less. absurd (far (omega (arith, law spot away at, read, less, left_is)))

  -- nor does any of a row where no column is near enough
  pub row_stays : (occupants : List (Option ℕ)) (spots : List Spot) → All (IsSpot task.sites.items columns y) spots → left ≤ draw.nearest → IsStuckAmong task places occupants block spots
  row_stays occupants spots right none = λ k d k_in.
      let spot = get_or spots k d in
      let at = right k d k_in in
      let near = get_or draw.columns.items spot.column 0 in
      let above : draw.nearest ≤ near = draws.nearest spot.column 0 (column_at spot 0 at).0 in
      stays_at occupants spot near at ((column_at spot 0 at).1 ∙ sym (column_at spot near at).1) (λ less. absurd (omega (arith, above, none, less)))

-- the sites of a row
pub row_spots : (sites : List SiteAt) (columns rows : List ℕ) (spots : List (List Spot)) (row y : ℕ) (group : List Spot) → IsGrid sites columns rows spots → row < length rows → y ≡ get_or rows row y →
    slice_get spots row ≡ Some group → All (IsSpot sites columns y) group
row_spots sites columns rows spots row y group grid row_in read at =
    subst (λ l. All (IsSpot sites columns y) l) (get_or_from_slice_get spots row group [] at)
    (subst (λ v. All (IsSpot sites columns v) (get_or spots row [])) (sym (read ∙ get_or_default rows row y 0 row_in)) (grid.right row row_in))

-- one more row, where the places are those at the beginning
pub rows_more : (task : AnnealTask) (places now : List ℕ) (occupants occupants_now : List (Option ℕ)) (block count : ℕ) (spots : List (List Spot)) (pulls : List Pull) → now ≡ places → occupants_now ≡ occupants →
    ((row : ℕ) → row < count → IsStuckAmong task places occupants block (get_or spots row [])) →
    (ArePulls task now pulls → IsStuckAmong task now occupants_now block (get_or spots count [])) → ArePulls task places pulls →
    (row : ℕ) → row < count + 1 → IsStuckAmong task places occupants block (get_or spots row [])
rows_more task places now occupants occupants_now block count spots pulls same same_occupants below here drawn =
    let stuck = subst (λ p. ArePulls task p pulls → IsStuckAmong task p occupants block (get_or spots count [])) same
    (subst (λ o. ArePulls task now pulls → IsStuckAmong task now o block (get_or spots count [])) same_occupants here) in
    below_more (λ row. IsStuckAmong task places occupants block (get_or spots row [])) count below (stuck drawn)

-- all sites of all rows are all sites
pub all_rows : (task : AnnealTask) (places columns rows : List ℕ) (occupants : List (Option ℕ)) (spots : List (List Spot)) (block : ℕ) → IsGrid task.sites.items columns rows spots →
    ((row : ℕ) → row < length rows → IsStuckAmong task places occupants block (get_or spots row [])) → IsStuck task places occupants block (length task.sites.items)
all_rows task places columns rows occupants spots block grid stuck = λ site site_in.
    let found = grid.whole site site_in in
    at (get_or spots found.0 []) site (stuck found.0 found.1) found.2
  where
    at : (group : List Spot) (site : ℕ) → IsStuckAmong task places occupants block group → ((spot : Spot) × Contains group spot × (spot.site ≡ site)) → IsStuckAt task places occupants block site
    at group site all (spot, (k, inside, here), is) =
        subst (λ s. IsStuckAt task places occupants block s) (ap (λ (s : Spot). s.site) here ∙ is) (all k spot inside)
