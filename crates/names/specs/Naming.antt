-- Giving a name a number.
use Rattle.std.specs.Prelude.{◌≡◌, ◌⊎◌, ℕ, List, [], ◌∷◌, ◌++◌}
use Rattle.vtr_base.specs.Lists.{Has}

-- a known name leaves the names as they are, and a new one goes last
abbrev pub AddsName : List (List ℕ) → List ℕ → List (List ℕ) → Type 0
AddsName old name new =
    (Has old name × (new ≡ old)) ⊎ ((Has old name → ⊥) × (new ≡ old ++ name ∷ []))
