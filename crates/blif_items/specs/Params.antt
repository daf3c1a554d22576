-- Parameters of a box (the extension `.param`).
use Rattle.std.specs.Prelude.{◌≡◌, ◌⊎◌, ℕ, List, [], ◌∷◌, ◌++◌, map, slice_set}
use Rattle.vtr_base.specs.Lists.{Has, IsFirstPlace}

abbrev pub names_of : List (List ℕ × List ℕ) → List (List ℕ)
names_of params = map (λ (p : List ℕ × List ℕ). p.0) params

-- a new parameter comes last, and a later value of a name takes the place of the earlier one
abbrev pub PutsParam : List (List ℕ × List ℕ) → List ℕ → List ℕ → List (List ℕ × List ℕ) → Type 0
PutsParam old name value new =
    ((k : ℕ) × IsFirstPlace (names_of old) name k × (new ≡ slice_set old k (name, value)))
    ⊎ ((Has (names_of old) name → ⊥) × (new ≡ old ++ (name, value) ∷ []))
