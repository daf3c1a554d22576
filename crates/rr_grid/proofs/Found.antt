-- The root of a place that is kept.
use Rattle.std.proofs.Common.{◌≡◌, ◌≤◌, ◌+◌, ℕ, List, Some, ◌∙◌, arith}
use Rattle.rr_items.specs.declared.grid.GridPlace.{GridPlace}
use Rattle.rr_grid.specs.declared.firsts.FirstPlace.{FirstPlace}
use Rattle.rr_grid.specs.declared.firsts.Firsts.{Firsts}
use Rattle.rr_grid.specs.declared.grid.GridRoot.{GridRoot}
use Rattle.rr_grid.specs.Firsts.{first_at}
use Rattle.rr_grid.specs.Gathering.{FitTogether}
use Rattle.rr_grid.specs.Roots.{HasRootAt}

module _ (places : List GridPlace) (f : Firsts) (fit : FitTogether places f) (x y : ℕ) (v : FirstPlace) (at : first_at f x y ≡ Some v) where
  pub low_width : v.place.width_offset ≤ v.place.x
  low_width = (let root = fit.right.rooted v.place (fit.kept x y v at).has in omega (arith, root.right.x))

  pub low_height : v.place.height_offset ≤ v.place.y
  low_height = (let root = fit.right.rooted v.place (fit.kept x y v at).has in omega (arith, root.right.y))

  pub root_there : (root : GridRoot) → root.x + v.place.width_offset ≡ v.place.x → root.y + v.place.height_offset ≡ v.place.y →
      root.block_type ≡ v.place.block_type → HasRootAt places x y root
  root_there root is_x is_y block_type =
      let stands = fit.kept x y v at in
      record {
        place = v.place;
        has = stands.has;
        x_is = stands.x_is;
        y_is = stands.y_is;
        root_x = is_x ∙ stands.x_is;
        root_y = is_y ∙ stands.y_is;
        block_type = block_type;
      }
