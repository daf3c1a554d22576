-- The layout that holds for a grid (VTR architecture reference, "Grid layout").
use Rattle.std.specs.Prelude.{◌≡◌, ◌<◌, ◌⊎◌, ℕ, List, [], Some, slice_get}
use Rattle.arch_types.specs.declared.arch.Layout.{Layout}
use Rattle.arch_types.specs.declared.arch.Single.{Single}

-- the layout has so many columns and rows
abbrev pub HasSize : Layout → ℕ × ℕ → Type 0
HasSize layout size = (layout.width ≡ size.0) × (layout.height ≡ size.1)

-- no layout has that size
abbrev pub HasNoSize : List Layout → ℕ × ℕ → Type 0
HasNoSize layouts size = (n : ℕ) (layout : Layout) → slice_get layouts n ≡ Some layout → HasSize layout size → ⊥

-- the first layout that has it
pub record IsFirstOfSize (layouts : List Layout) (size : ℕ × ℕ) (layout : Layout) : Type 0 where
  pub place : ℕ
  pub there : slice_get layouts place ≡ Some layout
  pub size_is : HasSize layout size
  pub first : (n : ℕ) (other : Layout) → n < place → slice_get layouts n ≡ Some other → HasSize other size → ⊥

-- the singles of the first layout of that size; none where no layout has it
abbrev pub AreSinglesOf : List Layout → ℕ × ℕ → List Single → Type 0
AreSinglesOf layouts size singles =
    (HasNoSize layouts size × (singles ≡ [])) ⊎ ((layout : Layout) × IsFirstOfSize layouts size layout × (singles ≡ layout.singles))
