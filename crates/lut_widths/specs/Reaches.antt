-- How far LUTs of each size reach among the instances of the children of one name.
use Rattle.std.specs.Prelude.{◌≡◌, ◌==◌, ◌<◌, ◌≤◌, ◌^◌, ◌↔◌, ◌⊎◌, ℕ, max, nat_le, if◌then◌else◌}
use Rattle.lut_widths.specs.declared.sizes.LutSizes.{LutSizes}
use Rattle.lut_widths.specs.declared.sizes.LutSizes.TheVariants.{NoLut, Single, Several}
use Rattle.lut_widths.specs.declared.reach.Reach.{Reach}

-- where LUTs stand, by their inputs and the instance: those of the one size in all instances below
-- `most`, and those of other sizes in none but those below `other`, in each of which one is
pub record IsReach (Stands : ℕ → ℕ → Type 0) (r : Reach) : Type 0 where
  pub own : (i : ℕ) → Stands r.inputs i ↔ (i < r.most)
  pub inside : (k i : ℕ) → Stands k i → (k ≡ r.inputs → ⊥) → i < r.other
  pub other : (i : ℕ) → i < r.other → (k : ℕ) × (k ≡ r.inputs → ⊥) × Stands k i
  pub order : r.other ≤ r.most

-- with LUTs of k inputs in all instances below n
abbrev pub reach_with : Reach → ℕ → ℕ → Reach
reach_with r k n =
    if k == r.inputs then record { inputs = r.inputs; most = max r.most n; other = r.other }
    else if nat_le n r.most then record { inputs = r.inputs; most = r.most; other = max r.other n }
    else record { inputs = k; most = n; other = r.most }

-- with LUTs of these sizes in all instances below n
abbrev pub reach_with_sizes : Reach → LutSizes → ℕ → Reach
reach_with_sizes r NoLut n = r
reach_with_sizes r (Single k) n = reach_with r k n
reach_with_sizes r (Several k j) n = reach_with (reach_with r k n) j n

-- some LUT in the instance has no table of so many bits
abbrev pub ReachMisfits : Reach → ℕ → ℕ → Type 0
ReachMisfits r instance width =
    ((width ≡ 2 ^ r.inputs) × (instance < r.other)) ⊎ ((width ≡ 2 ^ r.inputs → ⊥) × (instance < r.most))
