-- The first element of a list that fails.
use Rattle.std.specs.Prelude.{◌≡◌, ◌⊎◌, List, [], ◌∷◌}

-- x is the first of which this holds
abbrev pub IsFirst : {X : Type 0} → (X → Type 0) → List X → X → Type 0
IsFirst P [] x = ⊥
IsFirst P (y ∷ ys) x = ((x ≡ y) × P y) ⊎ ((P y → ⊥) × IsFirst P ys x)

-- it holds of none
abbrev pub IsOfNone : {X : Type 0} → (X → Type 0) → List X → Type 0
IsOfNone P [] = Unit {0}
IsOfNone P (y ∷ ys) = (P y → ⊥) × IsOfNone P ys
